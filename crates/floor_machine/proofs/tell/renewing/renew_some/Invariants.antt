use Rattle.std.proofs.Common.{◌≡◌, ℕ, ◌<◌, ◌≤◌, true, drop, get_or, length}
use Rattle.std.specs.Prelude.{◌||◌, All}
use Rattle.floor_queue.specs.Queue.{is_one_of}
use Rattle.floor_message.specs.Shown.{IsShownInfo}
use Rattle.floor_machine.specs.steps.Renewing.{is_still}
use Rattle.floor_machine.proofs.Skipped.{IsWalked}
use Rattle.floor_machine.proofs.tell.renewing.renew_some.Given as goal

-- the walk stands at a number, and of those from there on each is one of those that are left, or stays as it is
abbrev pub invariant-loop-number : goal.invariant-loop-number
invariant-loop-number l = record {
  walked : IsWalked l.settled.config.now l.course.ended.items l.settled.requests.now.ongoing l.fn.infos.items l.course.numbers.items l.at l.place l.infos.items l.changes;
  within : l.at ≤ length l.course.numbers.items;
  rest : (i : ℕ) → l.at ≤ i → i < length l.course.numbers.items
      → (is_still l.settled.requests.now.ongoing l.course (get_or l.course.numbers.items i 0) || is_one_of (get_or l.course.numbers.items i 0) (drop l.number-index l.some)) ≡ true;
  fit : All IsShownInfo l.infos.items;
}
