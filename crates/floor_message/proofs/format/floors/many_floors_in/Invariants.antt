use Rattle.std.proofs.Common.{◌≡◌, [], length}
use Rattle.floor_message.specs.steps.Adding.{add_all}
use Rattle.floor_message.specs.Picked.{numbers}
use Rattle.floor_message.proofs.format.floors.many_floors_in.Given as goal

abbrev pub invariant-loop-attr : goal.invariant-loop-attr
invariant-loop-attr l = add_all (λ n. n) l.found.keys (numbers 2 l.rest) ≡ add_all (λ n. n) [] (numbers 2 l.attrs)

abbrev pub decreases-loop-attr : goal.decreases-loop-attr
decreases-loop-attr l = length l.rest
