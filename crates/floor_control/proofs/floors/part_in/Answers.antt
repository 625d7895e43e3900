use Rattle.std.proofs.Common.{ℕ, ◌==◌, ap, ◌∙◌}
use Rattle.std.specs.Prelude.{Option, Some, find, option_map}
use Rattle.floor_control.specs.Floors.{part_of}
use Rattle.floor_control.proofs.floors.part_in.Goals as goal

pub returns-in-Some : goal.returns-in-Some
returns-in-Some c =
    ap Some c.part_of.ensures
    ∙ ap (option_map (λ (f : ℕ × Option (ℕ × ℕ)). part_of f.1))
    (c.in-Some.ensures ∙ ap (find (λ (f : ℕ × Option (ℕ × ℕ)). f.0 == c.args.floor)) c.as_slice.ensures)

pub returns-in-None : goal.returns-in-None
returns-in-None c =
    ap (option_map (λ (f : ℕ × Option (ℕ × ℕ)). part_of f.1))
    (c.in-None.ensures ∙ ap (find (λ (f : ℕ × Option (ℕ × ℕ)). f.0 == c.args.floor)) c.as_slice.ensures)
