use Rattle.std.proofs.Common.{◌≡◌, false, take}
use Rattle.std.specs.List.{list_any}
use Rattle.floor_machine.specs.steps.Telling.{is_noticed}
use Rattle.floor_machine.proofs.tell.due.watches_any.Given as goal

-- the member watches none of those that were looked at
abbrev pub invariant-loop-notice : goal.invariant-loop-notice
invariant-loop-notice l = list_any (is_noticed l.member) (take l.notice-index l.notices) ≡ false
