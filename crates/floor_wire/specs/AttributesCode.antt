-- How attributes are told apart: each is a list of marks, from the last attribute to the first, which a stack reads back.
use Rattle.std.specs.Prelude.{◌≡◌, ℕ, zero, suc, Bool, false, List, [], ◌∷◌, ◌++◌, slice_index, refl}
use Rattle.std.proofs.Common.{append_assoc, ◌∙◌, ap}
use Rattle.std.proofs.lemmas.List.{append-nil}
use Rattle.std.specs.Coded.{Coded, code_by, coded×, coded_ℕ, coded_bool, coded_list}
use Rattle.floor_wire.specs.Attributes.{Content, num, pair, group, octets, Attributes, no_attributes, attribute}

-- a tag, with a type, an M bit and numbers
abbrev pub Mark : Type 0
Mark = ℕ × (ℕ × (Bool × List ℕ))

abbrev mutual
  pub content_marks : ℕ → Bool → Content → List Mark
  content_marks kind must (num n) = (1, (kind, (must, n ∷ []))) ∷ []
  content_marks kind must (pair a b) = (2, (kind, (must, a ∷ b ∷ []))) ∷ []
  content_marks kind must (octets os) = (3, (kind, (must, os))) ∷ []
  content_marks kind must (group n inside) = marks inside ++ (4, (kind, (must, n ∷ []))) ∷ []

  pub marks : Attributes → List Mark
  marks no_attributes = (0, (0, (false, []))) ∷ []
  marks (attribute kind must content rest) = marks rest ++ content_marks kind must content

-- the attribute of a mark, in front of the list on top of the stack
abbrev pub pushed : (tag : ℕ) → ℕ → Bool → List ℕ → List Attributes → List Attributes
pushed zero kind must ns stack = no_attributes ∷ stack
pushed (suc zero) kind must ns (rest ∷ stack) = attribute kind must (num (slice_index ns 0)) rest ∷ stack
pushed (suc (suc zero)) kind must ns (rest ∷ stack) = attribute kind must (pair (slice_index ns 0) (slice_index ns 1)) rest ∷ stack
pushed (suc (suc (suc zero))) kind must ns (rest ∷ stack) = attribute kind must (octets ns) rest ∷ stack
pushed (suc (suc (suc (suc n)))) kind must ns (inside ∷ rest ∷ stack) = attribute kind must (group (slice_index ns 0) inside) rest ∷ stack
pushed (suc n) kind must ns stack = stack

abbrev pub run : List Mark → List Attributes → List Attributes
run [] stack = stack
run (m ∷ ms) stack = run ms (pushed m.0 m.1.0 m.1.1.0 m.1.1.1 stack)

abbrev pub top : List Attributes → Attributes
top [] = no_attributes
top (a ∷ stack) = a

mutual
  pub run-content : (kind : ℕ) (must : Bool) (c : Content) (rest : Attributes) (ms : List Mark) (stack : List Attributes)
      → run (content_marks kind must c ++ ms) (rest ∷ stack) ≡ run ms (attribute kind must c rest ∷ stack)
  run-content kind must (num n) rest ms stack = refl
  run-content kind must (pair a b) rest ms stack = refl
  run-content kind must (octets os) rest ms stack = refl
  run-content kind must (group n inside) rest ms stack =
      rw append_assoc (run-marks inside ((4, (kind, (must, n ∷ []))) ∷ ms) (rest ∷ stack))

  pub run-marks : (a : Attributes) (ms : List Mark) (stack : List Attributes) → run (marks a ++ ms) stack ≡ run ms (a ∷ stack)
  run-marks no_attributes ms stack = refl
  run-marks (attribute kind must c rest) ms stack =
      rw append_assoc (run-marks rest (content_marks kind must c ++ ms) stack ∙ run-content kind must c rest ms stack)

pub top-run : (a : Attributes) → top (run (marks a) []) ≡ a
top-run a = let e : run (marks a) [] ≡ a ∷ [] = rw (← append-nil (marks a)) (run-marks a [] []) in ap top e

abbrev pub attributes_code : Coded Attributes
attributes_code = code_by (List Mark) (coded_list (coded× coded_ℕ (coded× coded_ℕ (coded× coded_bool (coded_list coded_ℕ))))) marks (λ ms. top (run ms [])) top-run
