-- What is found of each user with the table that it was read of, one after another as a loop does.
use Rattle.std.proofs.Common.{◌≡◌, ℕ, ◌+◌, ◌<◌, ◌≤◌, Bool, true, false, true≢false, List, [], ◌∷◌, ◌++◌, length, drop, get_or, Result, Ok, Err, refl, sym, ap, ◌∙◌, append_assoc}
use Rattle.std.proofs.lemmas.List.{append-nil, drop_all, nil_from_length}
use Rattle.toml.specs.Data.{Data}
use Rattle.toml.specs.View.{view, items_view}
use Rattle.toml.specs.declared.value.Value.{Value}
use Rattle.toml.proofs.Views.{items_view-drop}
use Rattle.floor_web.specs.declared.participants.ParticipantsFault.{ParticipantsFault}
use Rattle.floor_web.specs.declared.participants.ParticipantsFault.TheVariants as faults
use Rattle.floor_web.specs.Participants.{Bearer, Found, each, then_found, behind_found, Fails}

abbrev pub is_found : Found → Bool
is_found (Ok found) = true
is_found (Err fault) = false

abbrev pub found_in : Found → List Bearer
found_in (Ok found) = found
found_in (Err fault) = []

regroup : (front first : List Bearer) (others : Found) → behind_found front (behind_found first others) ≡ behind_found (front ++ first) others
regroup front first (Ok others) = ap Ok (simp append_assoc)
regroup front first (Err fault) = refl

-- a fault behind what was found is the fault
strip : (front : List Bearer) (found : Found) (e : ParticipantsFault) → behind_found front found ≡ Err e → found ≡ Err e
strip front (Ok found) e is = absurd (true≢false (ap is_found is))
strip front (Err fault) e is = is

-- a fault that one ends by is the other's
carries : (e : ParticipantsFault) (found all : Found) → Fails e found → (found ≡ Err e → all ≡ Err e) → Fails e all
carries (faults.Config f) found all h k = k h
carries (faults.WeakToken c u) found all h k = k h
carries (faults.DoubleToken c u) found all h k = k h
carries faults.NoToken found all h k = k h
carries faults.Memory found all h k = tt

went_on : (front after : List Bearer) (found others : Found) → behind_found front found ≡ Ok after → behind_found front (then_found found others) ≡ behind_found after others
went_on front after (Ok first) others is = regroup front first others ∙ ap (λ (found : List Bearer). behind_found found others) (ap found_in is)
went_on front after (Err fault) others is = absurd (true≢false (sym (ap is_found is)))

ended : (front : List Bearer) (found others : Found) (e : ParticipantsFault) → found ≡ Err e → behind_found front (then_found found others) ≡ Err e
ended front found others e is = rw is refl

module _ {A : Type 0} (read : A → Data → Found) where
  -- the table at the front of those that are left
  step : (x : A) (xs : List A) (vs : List Value) (i : ℕ) (v : Value) → i < length vs → v ≡ get_or vs i v
      → each read (x ∷ xs) (items_view (drop i vs)) ≡ then_found (read x (view v)) (each read xs (items_view (drop (i + 1) vs)))
  unfolding each
  step x xs vs i v lt at_i = rw (items_view-drop vs i v lt, sym at_i) refl

  -- those that were found of a table stand behind those before
  pub goes_on : (front after : List Bearer) (x : A) (xs : List A) (vs : List Value) (i : ℕ) (v : Value) (total : Found)
      → i < length vs → v ≡ get_or vs i v → behind_found front (read x (view v)) ≡ Ok after
      → behind_found front (each read (x ∷ xs) (items_view (drop i vs))) ≡ total → behind_found after (each read xs (items_view (drop (i + 1) vs))) ≡ total
  goes_on front after x xs vs i v total lt at_i is so_far =
      sym (ap (behind_found front) (step x xs vs i v lt at_i) ∙ went_on front after (read x (view v)) (each read xs (items_view (drop (i + 1) vs))) is) ∙ so_far

  -- a fault ends the reading
  pub stops : (e : ParticipantsFault) (front old : List Bearer) (x : A) (xs : List A) (vs : List Value) (i : ℕ) (v : Value) (all : Found)
      → i < length vs → v ≡ get_or vs i v → Fails e (read x (view v))
      → behind_found front (each read (x ∷ xs) (items_view (drop i vs))) ≡ behind_found old all → Fails e all
  stops e front old x xs vs i v all lt at_i h so_far =
      carries e (read x (view v)) all h (λ is. strip old all e (sym so_far ∙ ap (behind_found front) (step x xs vs i v lt at_i) ∙ ended front (read x (view v)) (each read xs (items_view (drop (i + 1) vs))) e is))

  none_left : (xs : List A) (vs : List Value) (i : ℕ) → length vs ≤ i → each read xs (items_view (drop i vs)) ≡ Ok []
  unfolding each
  none_left [] vs i le = refl
  none_left (x ∷ xs) vs i le = rw (drop_all i vs le) refl

  -- all tables are read
  pub is_done : (front : List Bearer) (xs : List A) (vs : List Value) (i : ℕ) (total : Found) → length vs ≤ i
      → behind_found front (each read xs (items_view (drop i vs))) ≡ total → total ≡ Ok front
  is_done front xs vs i total le so_far = sym so_far ∙ ap (behind_found front) (none_left xs vs i le) ∙ ap Ok (append-nil front)

  nobody_left : (vs : List Value) (i : ℕ) → each read [] (items_view (drop i vs)) ≡ Ok []
  unfolding each
  nobody_left vs i = refl

  -- nobody is left to be read
  pub is_over : (front : List Bearer) (vs : List Value) (i : ℕ) (total : Found) → behind_found front (each read [] (items_view (drop i vs))) ≡ total → total ≡ Ok front
  is_over front vs i total so_far = sym so_far ∙ ap (behind_found front) (nobody_left vs i) ∙ ap Ok (append-nil front)

-- nothing is left where the first isn't there
pub nil_of_none : {A : Type 0} {xs : List A} → length xs ≡ 0 → xs ≡ []
nil_of_none none = nil_from_length _ none
