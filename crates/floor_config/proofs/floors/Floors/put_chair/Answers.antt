use Rattle.std.proofs.Common.{◌≡◌, ℕ, ◌+◌, ◌<◌, ◌∙◌, List, ◌++◌, length, get_or, set, take, drop, map, ap, arith}
use Rattle.std.proofs.lemmas.List.{get_or_default}
use Rattle.std.proofs.lemmas.List.Edits.{map_over_more}
use Rattle.floor_config.specs.Changed.{chaired}
use Rattle.floor_config.proofs.floors.Floors.put_chair.Goals as goal

-- z is f of the element at i, and is written there
set-map_front : {X : Type 0} (f : X → X) (xs ys : List X) (i : ℕ) (d z : X) → i < length xs → i < length ys → z ≡ f (get_or ys i d) →
    ys ≡ map f (take i xs) ++ drop i xs → set ys i z ≡ map f (take (i + 1) xs) ++ drop (i + 1) xs
set-map_front f xs ys i d z within within_now e h =
    ap (λ x. set ys i x) e ∙ map_over_more f xs ys i (get_or ys i d) within h (get_or_default ys i d (get_or ys i d) within_now)

pub loop-floor-preserved : goal.loop-floor-preserved
loop-floor-preserved c =
    let within : c.loop-floor.floor-index < length c.args.self.now = omega (arith, ap length c.self.view_is) in
    let within_now : c.loop-floor.floor-index < length c.loop-floor.floor-items = omega arith in
    set-map_front (chaired c.args.id c.args.chair) c.args.self.now c.loop-floor.floor-items c.loop-floor.floor-index _ _ within within_now
    c.give_chair.ensures c.loop-floor.invariant
