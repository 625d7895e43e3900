-- What a line that was read asks for.
use Rattle.std.proofs.Common.{◌≡◌, ◌≢◌, ◌==◌, inl, inr, ℕ, Bool, true, false, cond, List, [], ◌∷◌, eqb-true, refl, ◌∙◌, ap}
use Rattle.std.specs.Prelude.{Option, None, Result, Ok, Err, IfOk}
use Rattle.floor_control.specs.Line.{Reads, asking_behind, asking_of, line_of}
use Rattle.floor_control.specs.declared.line.Asking.{Asking}
use Rattle.floor_control.specs.declared.line.Line.{Line}
use Rattle.floor_control.specs.declared.line.LineFault.{LineFault}
use Rattle.floor_control.specs.declared.line.LineFault.TheVariants.{Memory}

-- what was read is what is meant, unless memory was refused
pub asked : {E : Type 0} (result : Result Asking E) (line meant : Result Line LineFault) (tag : Option (List ℕ))
    → IfOk result (λ a. a ≡ record { tag = tag; line = line }) → IfOk result (λ _. line ≢ Err Memory) → Reads meant line
    → IfOk result (λ a. a ≡ record { tag = tag; line = meant })
asked (Ok a) line meant tag e n (inl same) = e ∙ ap (λ (l : Result Line LineFault). record { tag = tag; line = l }) same
asked (Ok a) line meant tag e n (inr memory) = absurd (n memory)
asked (Err error) line meant tag e n h = tt

unmarked_on : (b : ℕ) (text : List ℕ) (t : Bool) → (b == 64) ≡ t → ((rest : List ℕ) → b ∷ text ≢ 64 ∷ rest)
    → cond t (asking_behind text) record { tag = None; line = line_of (b ∷ text) } ≡ record { tag = None; line = line_of (b ∷ text) }
unmarked_on b text true e none = absurd (none text (ap (λ c. c ∷ text) (eqb-true b 64 e)))
unmarked_on b text false e none = refl

-- a line that doesn't begin with `@` has no tag
pub unmarked : (line : List ℕ) → ((rest : List ℕ) → line ≢ 64 ∷ rest) → asking_of line ≡ record { tag = None; line = line_of line }
unmarked [] none = refl
unmarked (b ∷ text) none = unmarked_on b text (b == 64) refl none
