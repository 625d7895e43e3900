use Rattle.std.proofs.Common.{◌≡◌, ◌+◌, drop, length, take}
use Rattle.floor_message.specs.steps.Reasons.{floors_named, reason_behind}
use Rattle.floor_message.specs.Picked.{groups}
use Rattle.floor_message.specs.Fields.{floor_reason}
use Rattle.floor_message.proofs.format.status_info.floor_reason.Given as goal

abbrev pub invariant-loop-attr : goal.invariant-loop-attr
invariant-loop-attr l = record {
  behind : l.rest ≡ drop l.place l.inside;
  all : l.place + length l.rest ≡ length l.inside;
  reason : reason_behind (floors_named (take l.place l.inside)) (groups 17 l.rest) ≡ floor_reason l.inside;
}

abbrev pub decreases-loop-attr : goal.decreases-loop-attr
decreases-loop-attr l = length l.rest
