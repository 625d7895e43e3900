use Rattle.std.proofs.Common.{◌≡◌, ◌++◌, take, map}
use Rattle.std.specs.Prelude.{filter}
use Rattle.floor_machine.specs.Journal.{parcel}
use Rattle.floor_machine.specs.steps.Telling.{is_due_to, update_to}
use Rattle.floor_machine.proofs.tell.due.put_updates.Given as goal

abbrev pub invariant-loop-update : goal.invariant-loop-update
invariant-loop-update l =
    l.out.items ≡ l.fn.out.items
    ++ map (λ u. parcel l.member.n (update_to l.conference l.member u)) (filter (is_due_to l.reply l.member) (take l.update-index l.updates))
