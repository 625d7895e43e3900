use Rattle.std.proofs.Common.{◌≡◌, ◌≤◌, length, take}
use Rattle.std.specs.Prelude.{◌==◌}
use Rattle.std.specs.List.{list_any}
use Rattle.floor_message.specs.steps.Reasons.{floors_named}
use Rattle.floor_message.proofs.format.status_info.is_named.Given as goal

abbrev pub invariant-loop-left : goal.invariant-loop-left
invariant-loop-left l = record {
  named : list_any (λ named. l.floor == named) (floors_named (take l.left l.rest)) ≡ list_any (λ named. l.floor == named) (floors_named (take l.place l.inside));
  fewer : l.left ≤ length l.rest;
}

abbrev pub decreases-loop-left : goal.decreases-loop-left
decreases-loop-left l = l.left
