use Rattle.std.proofs.Common.{◌≡◌, [], length, map}
use Rattle.floor_message.specs.steps.Adding.{add_all}
use Rattle.floor_message.specs.Picked.{groups}
use Rattle.floor_message.specs.Fields.{judged}
use Rattle.floor_message.proofs.format.verdicts.floors_judged.Given as goal

abbrev pub invariant-loop-attr : goal.invariant-loop-attr
invariant-loop-attr l = add_all (λ v. v.0) l.found.items (map (judged l.overall) (groups 17 l.rest))
    ≡ add_all (λ v. v.0) [] (map (judged l.overall) (groups 17 l.inside))

abbrev pub decreases-loop-attr : goal.decreases-loop-attr
decreases-loop-attr l = length l.rest
