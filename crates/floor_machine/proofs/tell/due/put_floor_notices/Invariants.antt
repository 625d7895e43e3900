use Rattle.std.proofs.Common.{◌≡◌, ◌++◌, take, map}
use Rattle.std.specs.Prelude.{filter}
use Rattle.floor_machine.specs.steps.Telling.{floor_notice_to, is_noticed}
use Rattle.floor_machine.proofs.tell.due.put_floor_notices.Given as goal

abbrev pub invariant-loop-notice : goal.invariant-loop-notice
invariant-loop-notice l =
    l.out.items ≡ l.fn.out.items ++ map (floor_notice_to l.member) (filter (is_noticed l.member) (take l.notice-index l.notices))
