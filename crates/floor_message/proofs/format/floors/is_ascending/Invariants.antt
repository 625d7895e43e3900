use Rattle.std.proofs.Common.{drop}
use Rattle.floor_message.specs.steps.Rising.{RiseFrom}
use Rattle.floor_message.proofs.format.floors.is_ascending.Given as goal

abbrev pub invariant-loop-number : goal.invariant-loop-number
invariant-loop-number l = (RiseFrom l.last (drop l.number-index l.others) → RiseFrom l.initial.last l.others) × (RiseFrom l.initial.last l.others → RiseFrom l.last (drop l.number-index l.others))
