use Rattle.std.proofs.Common.{◌≡◌, ℕ, ◌++◌, List, length, take, map, ap, arith, ◌∙◌}
use Rattle.std.specs.Prelude.{Option}
use Rattle.std.proofs.lemmas.List.{take_all}
use Rattle.floor_machine.proofs.tell.renewing.note_floors.Goals as goal

pub returns : goal.returns
returns c =
    let all : take c.loop-shown.shown-index c.args.info.now.floors ≡ c.args.info.now.floors =
    take_all c.loop-shown.shown-index c.args.info.now.floors (omega (arith, ap (λ (fs : List (ℕ × Option (ℕ × ℕ))). length fs) c.as_slice-shown-items.ensures)) in
    c.loop-shown.invariant ∙ ap (λ (fs : List (ℕ × Option (ℕ × ℕ))). c.args.floors.now.items ++ map (λ (f : ℕ × Option (ℕ × ℕ)). f.0) fs) all
