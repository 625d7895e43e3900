-- The numbers of the live members that pass, where one joins or leaves, and where the members change.
use Rattle.std.proofs.Common.{◌≡◌, ℕ, Bool, true, false, cond, List, [], ◌∷◌, ◌++◌, map, Some, None, refl, sym, ap, ◌∙◌, arith}
use Rattle.std.specs.Prelude.{◌==◌, ◌&&◌, ◌||◌, not, filter}
use Rattle.std.specs.List.{list_any}
use Rattle.std.specs.Option.{option_map_or}
use Rattle.std.proofs.lemmas.Bool.Decides.{nat_tests}
use Rattle.floor_machine.specs.declared.member.Member.{Member}
use Rattle.floor_machine.specs.Change.{leaving}
use Rattle.floor_machine.specs.Conference.{joining, member_with}
use Rattle.floor_machine.specs.steps.Counting.{AreThose}

-- whether the live member with this number passes
abbrev pub passes_at : (Member → Bool) → List Member → ℕ → Bool
passes_at q ms k = option_map_or q (member_with ms k) false

-- whoever joins and doesn't pass
push-at : (q : Member → Bool) (n user k : ℕ) → q (joining n user) ≡ false → (ms : List Member) → passes_at q (ms ++ joining n user ∷ []) k ≡ passes_at q ms k
push-at q n user k none [] = by (n == k)
  where
    by : (b : Bool) → option_map_or q (cond (b && true) (Some (joining n user)) None) false ≡ false
    by true = none
    by false = refl
push-at q n user k none (m ∷ ms) = by (m.n == k && m.is_live) (push-at q n user k none ms)
  where
    by : (b : Bool) → passes_at q (ms ++ joining n user ∷ []) k ≡ passes_at q ms k →
        option_map_or q (cond b (Some m) (member_with (ms ++ joining n user ∷ []) k)) false ≡ option_map_or q (cond b (Some m) (member_with ms k)) false
    by true h = refl
    by false h = h

pub those-joining : (q : Member → Bool) (n user : ℕ) → q (joining n user) ≡ false → (ms : List Member) (those : List ℕ) → AreThose q ms those → AreThose q (ms ++ joining n user ∷ []) those
those-joining q n user none ms those h k = h k ∙ sym (push-at q n user k none ms)

-- members that keep their numbers, and that are live and pass as before
same-at : (q : Member → Bool) (f : Member → Member) → ((m : Member) → (f m).n ≡ m.n) → ((m : Member) → (f m).is_live ≡ m.is_live) → ((m : Member) → q (f m) ≡ q m) → (k : ℕ) (ms : List Member) →
    passes_at q (map f ms) k ≡ passes_at q ms k
same-at q f number live same k [] = refl
same-at q f number live same k (m ∷ ms) =
    ap (λ (b : Bool). option_map_or q (cond b (Some (f m)) (member_with (map f ms) k)) false)
    (ap (λ (i : ℕ). i == k && (f m).is_live) (number m) ∙ ap (λ (l : Bool). m.n == k && l) (live m))
    ∙ by (m.n == k && m.is_live) (same-at q f number live same k ms)
  where
    by : (b : Bool) → passes_at q (map f ms) k ≡ passes_at q ms k → option_map_or q (cond b (Some (f m)) (member_with (map f ms) k)) false ≡ option_map_or q (cond b (Some m) (member_with ms k)) false
    by true h = same m
    by false h = h

pub those-same : (q : Member → Bool) (f : Member → Member) → ((m : Member) → (f m).n ≡ m.n) → ((m : Member) → (f m).is_live ≡ m.is_live) → ((m : Member) → q (f m) ≡ q m) → (ms : List Member) (those : List ℕ) →
    AreThose q ms those → AreThose q (map f ms) those
those-same q f number live same ms those h k = h k ∙ sym (same-at q f number live same k ms)

-- what is written of members and numbers holds of those that they come to be
pub still-those : (q : Member → Bool) {ms ms' : List Member} {those those' : List ℕ} → ms' ≡ ms → those' ≡ those → AreThose q ms those → AreThose q ms' those'
still-those q {ms} {ms'} {those} {those'} e f h k = ap (list_any (λ j. j == k)) f ∙ h k ∙ sym (ap (λ (xs : List Member). passes_at q xs k) e)

both-same : (a k n : ℕ) → (a == k) ≡ true → (a == n) ≡ true → (k == n) ≡ true
both-same a k n e f = grind (arith, nat_tests)

other-same : (a k n : ℕ) → (a == k) ≡ true → (a == n) ≡ false → (k == n) ≡ false
other-same a k n e f = grind (arith, nat_tests)

-- whoever leaves isn't live any more
leaving-at : (q : Member → Bool) (n k : ℕ) (ms : List Member) → passes_at q (map (leaving n) ms) k ≡ (not (k == n) && passes_at q ms k)
leaving-at q n k [] = by (k == n)
  where
    by : (b : Bool) → false ≡ (not b && false)
    by true = refl
    by false = refl
leaving-at q n k (m ∷ ms) = by (m.n == n) refl (leaving-at q n k ms)
  where
    gone : (d l : Bool) → (m.n == k) ≡ d → (m.n == n) ≡ true → passes_at q (map (leaving n) ms) k ≡ (not (k == n) && passes_at q ms k) →
        option_map_or q (cond (d && false) (Some (record m { is_live = false })) (member_with (map (leaving n) ms) k)) false ≡ (not (k == n) && option_map_or q (cond (d && l) (Some m) (member_with ms k)) false)
    gone true l d e h =
        h
        ∙ ap (λ (b : Bool). not b && passes_at q ms k) (both-same m.n k n d e)
        ∙ sym (ap (λ (b : Bool). not b && option_map_or q (cond l (Some m) (member_with ms k)) false) (both-same m.n k n d e))
    gone false l d e h = h

    stays : (d l : Bool) → (m.n == k) ≡ d → (m.n == n) ≡ false → passes_at q (map (leaving n) ms) k ≡ (not (k == n) && passes_at q ms k) →
        option_map_or q (cond (d && l) (Some m) (member_with (map (leaving n) ms) k)) false ≡ (not (k == n) && option_map_or q (cond (d && l) (Some m) (member_with ms k)) false)
    stays true true d e h = sym (ap (λ (b : Bool). not b && q m) (other-same m.n k n d e))
    stays true false d e h = h
    stays false l d e h = h

    by : (b : Bool) → (m.n == n) ≡ b → passes_at q (map (leaving n) ms) k ≡ (not (k == n) && passes_at q ms k) →
        option_map_or q (cond ((cond b (record m { is_live = false }) m).n == k && (cond b (record m { is_live = false }) m).is_live) (Some (cond b (record m { is_live = false }) m)) (member_with (map (leaving n) ms) k)) false
        ≡ (not (k == n) && option_map_or q (cond (m.n == k && m.is_live) (Some m) (member_with ms k)) false)
    by true e h = gone (m.n == k) m.is_live refl e h
    by false e h = stays (m.n == k) m.is_live refl e h

-- and is taken out of the numbers
pub without-at : (n k : ℕ) (ks : List ℕ) → list_any (λ j. j == k) (filter (λ j. not (j == n)) ks) ≡ (not (k == n) && list_any (λ j. j == k) ks)
without-at n k [] = by (k == n)
  where
    by : (b : Bool) → false ≡ (not b && false)
    by true = refl
    by false = refl
without-at n k (j ∷ ks) = by (j == n) (j == k) refl refl (without-at n k ks)
  where
    by : (b d : Bool) → (j == n) ≡ b → (j == k) ≡ d → list_any (λ j. j == k) (filter (λ j. not (j == n)) ks) ≡ (not (k == n) && list_any (λ j. j == k) ks) →
        list_any (λ j. j == k) (cond (not b) (j ∷ filter (λ j. not (j == n)) ks) (filter (λ j. not (j == n)) ks)) ≡ (not (k == n) && (d || list_any (λ j. j == k) ks))
    by true true e d h =
        h
        ∙ ap (λ (b : Bool). not b && list_any (λ j. j == k) ks) (both-same j k n d e)
        ∙ sym (ap (λ (b : Bool). not b && true) (both-same j k n d e))
    by true false e d h = h
    by false true e d h =
        ap (λ (b : Bool). b || list_any (λ j. j == k) (filter (λ j. not (j == n)) ks)) d
        ∙ sym (ap (λ (b : Bool). not b && true) (other-same j k n d e))
    by false false e d h = ap (λ (b : Bool). b || list_any (λ j. j == k) (filter (λ j. not (j == n)) ks)) d ∙ h

pub those-leaving : (q : Member → Bool) (n : ℕ) (ms : List Member) (those : List ℕ) → AreThose q ms those → AreThose q (map (leaving n) ms) (filter (λ k. not (k == n)) those)
those-leaving q n ms those h k = without-at n k those ∙ ap (λ (b : Bool). not (k == n) && b) (h k) ∙ sym (leaving-at q n k ms)
