-- The first item for which a test holds is changed.
use Rattle.std.proofs.Common.{◌≡◌, ℕ, zero, suc, ◌+◌, ◌<◌, ◌≤◌, Bool, true, false, ◌∙◌, List, [], ◌∷◌, ◌++◌, length, get_or, set, refl, ap, sym, arith}
use Rattle.std.specs.Prelude.{Option, Some, None, Result, Ok, Err, OnOk, ◌||◌, position, if◌then◌else◌}
use Rattle.std.specs.List.{list_any, position_or_len}
use Rattle.std.proofs.lemmas.Bool.{false≢true}
use Rattle.std.proofs.lemmas.Grind.{common_steps}
use Rattle.std.proofs.lemmas.List.Folds.{list_any_at}
use Rattle.std.proofs.lemmas.List.Quantifiers.{position-Some}
use Rattle.std.proofs.lemmas.List.Sums.{fails_before_first}
use Rattle.floor_follow.specs.Following.{over_first}
use Rattle.floor_follow.specs.declared.conference.Conference.{Conference}

-- which of two is chosen
pub chosen_yes : {X : Type 0} (b : Bool) (x y : X) → b ≡ true → (if b then x else y) ≡ x
chosen_yes true x y e = refl
chosen_yes false x y e = absurd (false≢true e)

pub chosen_no : {X : Type 0} (b : Bool) (x y : X) → b ≡ false → (if b then x else y) ≡ y
chosen_no true x y e = absurd (false≢true (sym e))
chosen_no false x y e = refl

-- what follows of a result that is Ok
pub on_ok : {A E P Q : Type 0} (r : Result A E) → (P → Q) → OnOk r P → OnOk r Q
on_ok (Ok a) f h = f h
on_ok (Err e) f h = tt

-- the first item for which the test holds stands at i
over_first-at : (p : Conference → Bool) (f : Conference → Conference) (ks : List Conference) (i : ℕ) (d : Conference) → i < length ks
    → p (get_or ks i d) ≡ true → ((k : ℕ) → k < i → p (get_or ks k d) ≡ false) → over_first p f ks ≡ set ks i (f (get_or ks i d))
over_first-at p f [] i d within holds before = absurd (omega arith)
over_first-at p f (x ∷ ks) zero d within holds before = chosen_yes (p x) (f x ∷ ks) (x ∷ over_first p f ks) holds
over_first-at p f (x ∷ ks) (suc i) d within holds before =
    chosen_no (p x) (f x ∷ ks) (x ∷ over_first p f ks) (before 0 (omega arith))
    ∙ ap (λ (l : List Conference). x ∷ l) (over_first-at p f ks i d (omega arith) holds (λ k below. before (suc k) (omega arith)))

-- an item is written where the first stands for which the test holds
pub over_first-found : (p : Conference → Bool) (f : Conference → Conference) (ks : List Conference) (i : ℕ) (d z : Conference) → position p ks ≡ Some i
    → z ≡ f d → d ≡ get_or ks i d → set ks i z ≡ over_first p f ks
over_first-found p f ks i d z found e at =
    let s = position-Some p ks i d found in
    ap (λ (x : Conference). set ks i x) (e ∙ ap f at) ∙ sym (over_first-at p f ks i d s.0 s.1 s.2)

-- where none is found the test holds for none
none_at : (p : Conference → Bool) (ks : List Conference) (d : Conference) → position p ks ≡ None → (k : ℕ) → k < length ks → p (get_or ks k d) ≡ false
none_at p ks d e k below =
    let past : length ks ≤ position_or_len p ks = grind (arith, common_steps) in
    fails_before_first p ks k d (omega arith)

or_false : (a b : Bool) → a ≡ false → b ≡ false → (a || b) ≡ false
or_false true b e h = absurd (false≢true (sym e))
or_false false b e h = h

any_false : (p : Conference → Bool) (ks : List Conference) (d : Conference) → ((k : ℕ) → k < length ks → p (get_or ks k d) ≡ false) → list_any p ks ≡ false
any_false p [] d none = refl
any_false p (x ∷ ks) d none = or_false (p x) (list_any p ks) (none 0 (omega arith)) (any_false p ks d (λ k below. none (suc k) (omega arith)))

pub any-none : (p : Conference → Bool) (ks : List Conference) → position p ks ≡ None → list_any p ks ≡ false
any-none p [] e = refl
any-none p (x ∷ ks) e = any_false p (x ∷ ks) x (none_at p (x ∷ ks) x e)

pub any-some : (p : Conference → Bool) (ks : List Conference) (i : ℕ) (d : Conference) → position p ks ≡ Some i → list_any p ks ≡ true
any-some p ks i d e =
    let s = position-Some p ks i d e in
    list_any_at p ks i d s.0 s.1

-- the test holds for none
over_none : (p : Conference → Bool) (f : Conference → Conference) (ks : List Conference) (d : Conference) → ((k : ℕ) → k < length ks → p (get_or ks k d) ≡ false)
    → over_first p f ks ≡ ks
over_none p f [] d none = refl
over_none p f (x ∷ ks) d none =
    chosen_no (p x) (f x ∷ ks) (x ∷ over_first p f ks) (none 0 (omega arith))
    ∙ ap (λ (l : List Conference). x ∷ l) (over_none p f ks d (λ k below. none (suc k) (omega arith)))

pub over_first-none : (p : Conference → Bool) (f : Conference → Conference) (ks : List Conference) → position p ks ≡ None → over_first p f ks ≡ ks
over_first-none p f [] e = refl
over_first-none p f (x ∷ ks) e = over_none p f (x ∷ ks) x (none_at p (x ∷ ks) x e)
