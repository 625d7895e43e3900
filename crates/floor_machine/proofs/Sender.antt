-- What is due to the sender alone is told and counted at its number: whoever isn't the sender is told nothing, and counted as before.
use Rattle.std.proofs.Common.{◌≡◌, ℕ, ◌+◌, ◌<◌, Bool, true, false, cond, List, [], ◌∷◌, ◌++◌, length, map, Option, Some, None, refl, sym, ap, ◌∙◌, arith, append-nil}
use Rattle.std.specs.Prelude.{◌==◌, ◌&&◌, find, option_and_then}
use Rattle.std.specs.List.{flat_map}
use Rattle.std.specs.Option.{option_map_or}
use Rattle.std.proofs.lemmas.Bool.Decides.{nat_tests}
use Rattle.floor_machine.specs.declared.member.Member.{Member}
use Rattle.floor_machine.specs.declared.replied.Replied.{Replied}
use Rattle.floor_machine.specs.Parcel.{Parcel}
use Rattle.floor_machine.specs.Conference.{is_numbered_from, member_with}
use Rattle.floor_machine.specs.Journal.{parcel, sent_to}
use Rattle.floor_machine.specs.steps.Counting.{counted_at, counted_of, due_at, is_told, members_at, taken_on, told_at, told_of, told_of_all}
use Rattle.floor_machine.specs.steps.Telling.{answered, noticed_to}
use Rattle.floor_machine.proofs.Counting.{AreOwn, due_to_all, sent-due, taken-nothing}
use Rattle.floor_machine.proofs.Found.{and_left, and_right}
use Rattle.floor_machine.proofs.Telling.{flat_map-same}

-- nothing is due to anybody but n
abbrev pub IsAlone : (Member → List Parcel) → ℕ → Type 0
IsAlone to n = (m : Member) → (m.n == n) ≡ false → to m ≡ []

-- a reply is due to its sender alone
pub reply-alone : (conference : ℕ) (reply : Replied) (n : ℕ) → reply.n ≡ Some n → IsAlone (noticed_to conference (Some reply) [] []) n
reply-alone conference reply n sent m other =
    ap (λ (o : Option ℕ). (map (parcel m.n) (cond (option_map_or (λ k. k == m.n) o false) (answered reply.head reply.tells) []) ++ []) ++ []) sent
    ∙ ap (λ (b : Bool). (map (parcel m.n) (cond b (answered reply.head reply.tells) []) ++ []) ++ []) (turned n m.n other)
  where
    turned : (a b : ℕ) → (b == a) ≡ false → (a == b) ≡ false
    turned a b e = grind (arith, nat_tests)

-- a reply that no member sent for is due to nobody
pub reply-nobody : (conference : ℕ) (o : Option Replied) → option_and_then (λ r. r.n) o ≡ None → (m : Member) → noticed_to conference o [] [] m ≡ []
reply-nobody conference None unsent m = refl
reply-nobody conference (Some reply) unsent m =
    ap (λ (o : Option ℕ). (map (parcel m.n) (cond (option_map_or (λ k. k == m.n) o false) (answered reply.head reply.tells) []) ++ []) ++ []) unsent

module _ (to : Member → List Parcel) (n : ℕ) (alone : IsAlone to n) where
  -- so nothing is due to another number
  due-other : (j : ℕ) → (j == n) ≡ false → (ms : List Member) → due_at to j ms ≡ []
  due-other j other [] = refl
  due-other j other (m ∷ ms) = by (m.n == j) m.is_live refl (due-other j other ms)
    where
      moved : (a j n : ℕ) → (a == j) ≡ true → (j == n) ≡ false → (a == n) ≡ false
      moved a j n e f = grind (arith, nat_tests)

      by : (b l : Bool) → (m.n == j) ≡ b → due_at to j ms ≡ [] → option_map_or to (cond (b && l) (Some m) (member_with ms j)) [] ≡ []
      by true true is rest = alone m (moved m.n j n is other)
      by true false is rest = rest
      by false l is rest = rest

  sent-alone : AreOwn to → (ms : List Member) → is_numbered_from 1 ms ≡ true → (j : ℕ) → sent_to j (due_to_all to ms) ≡ cond (j == n) (due_at to n ms) []
  sent-alone own ms numbered j = sent-due to own j 1 ms numbered ∙ by (j == n) refl
    where
      equal : (a b : ℕ) → (a == b) ≡ true → a ≡ b
      equal a b e = grind (arith, nat_tests)

      by : (b : Bool) → (j == n) ≡ b → due_at to j ms ≡ cond b (due_at to n ms) []
      by true is = ap (λ (k : ℕ). due_at to k ms) (equal j n is)
      by false is = due-other j is ms

-- what is made of the members of one number, which one member has at most, is made of the one that is found by it
behind : {B : Type 0} (h : Member → List B) (ms : List Member) (k n : ℕ) → is_numbered_from k ms ≡ true → n < k → flat_map (λ m. cond (m.n == n) (h m) []) ms ≡ []
behind h [] k n numbered below = refl
behind h (m ∷ ms) k n numbered below =
    rw (differs m.n k n (and_left (m.n == k) (is_numbered_from (k + 1) ms) numbered) below)
    (behind h ms (k + 1) n (and_right (m.n == k) (is_numbered_from (k + 1) ms) numbered) (omega (arith, below)))
  where
    differs : (a k n : ℕ) → (a == k) ≡ true → n < k → (a == n) ≡ false
    differs a k n e l = grind (arith, nat_tests)

one-found : {B : Type 0} (h : Member → List B) (ms : List Member) (k n : ℕ) → is_numbered_from k ms ≡ true →
    flat_map (λ m. cond (m.n == n) (h m) []) ms ≡ option_map_or h (find (λ m. m.n == n) ms) []
one-found h [] k n numbered = refl
one-found {B = B} h (m ∷ ms) k n numbered = by (m.n == n) refl (one-found h ms (k + 1) n (and_right (m.n == k) (is_numbered_from (k + 1) ms) numbered))
  where
    reached : (a k n : ℕ) → (a == k) ≡ true → (a == n) ≡ true → n < k + 1
    reached a k n e same = grind (arith, nat_tests)

    by : (b : Bool) → (m.n == n) ≡ b → flat_map (λ m. cond (m.n == n) (h m) []) ms ≡ option_map_or h (find (λ m. m.n == n) ms) [] →
        cond b (h m) [] ++ flat_map (λ m. cond (m.n == n) (h m) []) ms ≡ option_map_or h (cond b (Some m) (find (λ m. m.n == n) ms)) []
    by true same rest =
        ap (λ (bs : List B). h m ++ bs)
        (behind h ms (k + 1) n (and_right (m.n == k) (is_numbered_from (k + 1) ms) numbered) (reached m.n k n (and_left (m.n == k) (is_numbered_from (k + 1) ms) numbered) same))
        ∙ append-nil (h m)
    by false other rest = rest

-- the sender is told what all are told of all that is due
pub told-alone : (to : Member → List Parcel) (n : ℕ) → IsAlone to n → AreOwn to → (ms : List Member) → is_numbered_from 1 ms ≡ true →
    told_at to n ms ≡ told_of_all (due_to_all to ms) ms
told-alone to n alone own ms numbered =
    found (find (λ m. m.n == n) ms)
    ∙ sym (one-found one ms 1 n numbered)
    ∙ sym (flat_map-same (told_of (due_to_all to ms)) (λ m. cond (m.n == n) (one m) [])
    (λ m. ap (λ (ps : List Parcel). cond (is_told (length ps) m) ps []) (sent-alone to n alone own ms numbered m.n) ∙ by m (m.n == n)) ms)
  where
    one : Member → List Parcel
    one m = cond (is_told (length (due_at to n ms)) m) (due_at to n ms) []

    found : (o : Option Member) → cond (option_map_or (is_told (length (due_at to n ms))) o false) (due_at to n ms) [] ≡ option_map_or one o []
    found None = refl
    found (Some m) = refl

    nothing : (b : Bool) → ◌≡◌ {A = List Parcel} (cond b [] []) []
    nothing true = refl
    nothing false = refl

    by : (m : Member) (b : Bool) → cond (is_told (length (cond b (due_at to n ms) [])) m) (cond b (due_at to n ms) []) [] ≡ cond b (one m) []
    by m true = refl
    by m false = nothing (is_told 0 m)

-- and the members are counted so
pub members-alone : (to : Member → List Parcel) (n : ℕ) → IsAlone to n → AreOwn to → (ms : List Member) → is_numbered_from 1 ms ≡ true →
    members_at to n ms ≡ map (counted_of (due_to_all to ms)) ms
members-alone to n alone own ms numbered =
    (λ i. map (λ m. each m i) ms)
  where
    by : (m : Member) (b : Bool) → cond b (taken_on (length (due_at to n ms)) m) m ≡ taken_on (length (cond b (due_at to n ms) [])) m
    by m true = refl
    by m false = sym (taken-nothing m)

    each : (m : Member) → counted_at (length (due_at to n ms)) n m ≡ counted_of (due_to_all to ms) m
    each m = by m (m.n == n) ∙ ap (λ (ps : List Parcel). taken_on (length ps) m) (sym (sent-alone to n alone own ms numbered m.n))

-- where nothing is due to anybody
nothing-due : (to : Member → List Parcel) → ((m : Member) → to m ≡ []) → (ms : List Member) → due_to_all to ms ≡ []
nothing-due to none [] = refl
nothing-due to none (m ∷ ms) = ap (λ (ps : List Parcel). cond m.is_live ps [] ++ due_to_all to ms) (none m) ∙ by m.is_live (nothing-due to none ms)
  where
    by : (l : Bool) → due_to_all to ms ≡ [] → cond l [] [] ++ due_to_all to ms ≡ []
    by true rest = rest
    by false rest = rest

none-told : (ms : List Member) → told_of_all [] ms ≡ []
none-told [] = refl
none-told (m ∷ ms) = by (is_told 0 m) (none-told ms)
  where
    by : (b : Bool) → told_of_all [] ms ≡ [] → cond b [] [] ++ told_of_all [] ms ≡ []
    by true rest = rest
    by false rest = rest

none-counted : (ms : List Member) → map (counted_of []) ms ≡ ms
none-counted [] = refl
none-counted (m ∷ ms) = ap (λ (x : Member). x ∷ map (counted_of []) ms) (taken-nothing m) ∙ ap (λ (xs : List Member). m ∷ xs) (none-counted ms)

-- nobody is told anything
pub told-nobody : (to : Member → List Parcel) → ((m : Member) → to m ≡ []) → (ms : List Member) → told_of_all (due_to_all to ms) ms ≡ []
told-nobody to none ms = ap (λ (ps : List Parcel). told_of_all ps ms) (nothing-due to none ms) ∙ none-told ms

-- and all are counted as before
pub members-nobody : (to : Member → List Parcel) → ((m : Member) → to m ≡ []) → (ms : List Member) → map (counted_of (due_to_all to ms)) ms ≡ ms
members-nobody to none ms = ap (λ (ps : List Parcel). map (counted_of ps) ms) (nothing-due to none ms) ∙ none-counted ms
