use Rattle.std.proofs.Common.{◌≡◌, ℕ, List, ◌++◌, drop}
use Rattle.floor_machine.specs.Conference.{AreCut, live_numbers}
use Rattle.floor_machine.specs.steps.Counting.{AreWatching, members_each, told_each}
use Rattle.floor_machine.specs.steps.Telling.{noticed_to}
use Rattle.floor_machine.proofs.tell.backlog.tell_each.Given as goal

-- what is told and what is left are all that is told, and the members come to be as after it
abbrev pub invariant-loop-n : goal.invariant-loop-n
invariant-loop-n l = record {
  told : l.out.items ++ told_each (noticed_to l.due.conference l.due.reply.now l.due.updates.now l.due.notices.now) (drop l.n-index l.live) l.joined.members.items
      ≡ l.fn.out.items ++ told_each (noticed_to l.due.conference l.due.reply.now l.due.updates.now l.due.notices.now) l.live l.fn.joined.members.items;
  members : members_each (noticed_to l.due.conference l.due.reply.now l.due.updates.now l.due.notices.now) (drop l.n-index l.live) l.joined.members.items
      ≡ members_each (noticed_to l.due.conference l.due.reply.now l.due.updates.now l.due.notices.now) l.live l.fn.joined.members.items;
  live : live_numbers l.joined.members.items ≡ live_numbers l.fn.joined.members.items;
  watching : (numbers : List ℕ) → AreWatching l.fn.joined.members.items numbers → AreWatching l.joined.members.items numbers;
  cut : AreCut l.fn.joined.members.items l.fn.joined.cut.items → AreCut l.joined.members.items l.joined.cut.items;
}
