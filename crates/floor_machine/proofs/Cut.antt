-- The live members that are cut are those that are noted.
use Rattle.std.proofs.Common.{◌≡◌, ℕ, ◌+◌, ◌-◌, Bool, true, false, true≢false, cond, List, [], ◌∷◌, ◌++◌, map, Option, Some, None, refl, sym, ap, ◌∙◌, arith}
use Rattle.std.specs.Prelude.{◌==◌, ◌&&◌, ◌||◌, nat_lt, not, filter, find}
use Rattle.std.specs.List.{list_any}
use Rattle.std.specs.Option.{option_map_or}
use Rattle.std.proofs.lemmas.Bool.Decides.{nat_tests}
use Rattle.std.proofs.lemmas.List.Folds.{list_any-append}
use Rattle.floor_machine.specs.declared.member.Member.{Member}
use Rattle.floor_machine.specs.Change.{acknowledging, leaving, watching}
use Rattle.floor_machine.specs.Conference.{AreCut, is_numbered_from, joining, member_with}
use Rattle.floor_machine.specs.steps.Counting.{counted_at, is_cut_by, is_told, taken_on, with_cut}
use Rattle.floor_machine.proofs.Counting.{live-at, n-counted}
use Rattle.floor_machine.proofs.Live.{if_live, live-found}
use Rattle.floor_machine.proofs.Those.{still-those, those-joining, those-leaving, those-same}

-- whether a member that may be there is cut
abbrev is_cut_there : Option Member → Bool
is_cut_there o = option_map_or (λ m. m.is_cut) o false

-- whether the live member with this number is cut
abbrev cut_at : List Member → ℕ → Bool
cut_at ms k = is_cut_there (member_with ms k)

-- whoever joins isn't cut
pub cut-joining : (n user : ℕ) (ms : List Member) (cut : List ℕ) → AreCut ms cut → AreCut (ms ++ joining n user ∷ []) cut
cut-joining n user ms cut h = those-joining (λ m. m.is_cut) n user refl ms cut h

-- members that keep their numbers, and that are live and cut as before
pub cut-same : (f : Member → Member) → ((m : Member) → (f m).n ≡ m.n) → ((m : Member) → (f m).is_live ≡ m.is_live) → ((m : Member) → (f m).is_cut ≡ m.is_cut) → (ms : List Member) (cut : List ℕ) →
    AreCut ms cut → AreCut (map f ms) cut
cut-same f number live same ms cut h = those-same (λ m. m.is_cut) f number live same ms cut h

-- what is written of members and numbers holds of those that they come to be
pub still-cut : {ms ms' : List Member} {cut cut' : List ℕ} → ms' ≡ ms → cut' ≡ cut → AreCut ms cut → AreCut ms' cut'
still-cut e f h = still-those (λ m. m.is_cut) e f h

pub cut-acknowledging : (j k : ℕ) (m : Member) → (acknowledging j k m).is_cut ≡ m.is_cut
cut-acknowledging j k m = by (m.n == j)
  where
    by : (b : Bool) → (cond b (record m { backlog = m.backlog - k }) m).is_cut ≡ m.is_cut
    by true = refl
    by false = refl

pub n-watching : (n : ℕ) (floors : List ℕ) (m : Member) → (watching n floors m).n ≡ m.n
n-watching n floors m = by (m.n == n)
  where
    by : (b : Bool) → (cond b (record m { watched = floors }) m).n ≡ m.n
    by true = refl
    by false = refl

pub live-watching-one : (n : ℕ) (floors : List ℕ) (m : Member) → (watching n floors m).is_live ≡ m.is_live
live-watching-one n floors m = by (m.n == n)
  where
    by : (b : Bool) → (cond b (record m { watched = floors }) m).is_live ≡ m.is_live
    by true = refl
    by false = refl

pub cut-watching : (n : ℕ) (floors : List ℕ) (m : Member) → (watching n floors m).is_cut ≡ m.is_cut
cut-watching n floors m = by (m.n == n)
  where
    by : (b : Bool) → (cond b (record m { watched = floors }) m).is_cut ≡ m.is_cut
    by true = refl
    by false = refl

same-back : (a k n : ℕ) → (a == n) ≡ true → (a == k) ≡ true → (n == k) ≡ true
same-back a k n e f = grind (arith, nat_tests)

other-back : (a k n : ℕ) → (a == n) ≡ true → (a == k) ≡ false → (n == k) ≡ false
other-back a k n e f = grind (arith, nat_tests)

other-forth : (a k n : ℕ) → (a == n) ≡ false → (a == k) ≡ true → (n == k) ≡ false
other-forth a k n e f = grind (arith, nat_tests)

-- whoever leaves isn't live any more
pub cut-leaving : (n : ℕ) (ms : List Member) (cut : List ℕ) → AreCut ms cut → AreCut (map (leaving n) ms) (filter (λ k. not (k == n)) cut)
cut-leaving n ms cut h = those-leaving (λ m. m.is_cut) n ms cut h

-- so many messages cut this member
abbrev is_cut_now : ℕ → Member → Bool
is_cut_now many m = nat_lt 0 many && not (is_told many m)

or-false : (b : Bool) → (b || false) ≡ b
or-false true = refl
or-false false = refl

taken-cut : (many : ℕ) (m : Member) → (taken_on many m).is_cut ≡ (m.is_cut || is_cut_now many m)
taken-cut many m = by (is_told many m) (nat_lt 0 many)
  where
    by : (t l : Bool) → (cond t (record m { backlog = m.backlog + many }) (record m { is_cut = m.is_cut || l })).is_cut ≡ (m.is_cut || (l && not t))
    by true true = sym (or-false m.is_cut)
    by true false = sym (or-false m.is_cut)
    by false true = refl
    by false false = refl

-- whom too many messages are due to is cut, and any other is as before
counted-at : (many n k : ℕ) (ms : List Member) →
    cut_at (map (counted_at many n) ms) k ≡ (cut_at ms k || (n == k && option_map_or (is_cut_now many) (member_with ms n) false))
counted-at many n k [] = by (n == k)
  where
    by : (b : Bool) → false ≡ (false || (b && false))
    by true = refl
    by false = refl
counted-at many n k (m ∷ ms) =
    ap (λ (b : Bool). is_cut_there (cond b (Some (counted_at many n m)) (member_with (map (counted_at many n) ms) k)))
    (ap (λ (i : ℕ). i == k && (counted_at many n m).is_live) (n-counted many n m) ∙ ap (λ (l : Bool). m.n == k && l) (live-at many n m))
    ∙ by (m.n == n) (m.n == k) m.is_live refl refl (counted-at many n k ms)
  where
    by : (b d l : Bool) → (m.n == n) ≡ b → (m.n == k) ≡ d → cut_at (map (counted_at many n) ms) k ≡ (cut_at ms k || (n == k && option_map_or (is_cut_now many) (member_with ms n) false)) →
        is_cut_there (cond (d && l) (Some (cond b (taken_on many m) m)) (member_with (map (counted_at many n) ms) k))
        ≡ (is_cut_there (cond (d && l) (Some m) (member_with ms k)) || (n == k && option_map_or (is_cut_now many) (cond (b && l) (Some m) (member_with ms n)) false))
    by true true true e d h = taken-cut many m ∙ sym (ap (λ (b : Bool). m.is_cut || (b && is_cut_now many m)) (same-back m.n k n e d))
    by true true false e d h = h
    by true false l e d h =
        h
        ∙ ap (λ (b : Bool). cut_at ms k || (b && option_map_or (is_cut_now many) (member_with ms n) false)) (other-back m.n k n e d)
        ∙ sym (ap (λ (b : Bool). cut_at ms k || (b && option_map_or (is_cut_now many) (cond l (Some m) (member_with ms n)) false)) (other-back m.n k n e d))
    by false true true e d h =
        sym (or-false m.is_cut)
        ∙ sym (ap (λ (b : Bool). m.is_cut || (b && option_map_or (is_cut_now many) (member_with ms n) false)) (other-forth m.n k n e d))
    by false true false e d h = h
    by false false l e d h = h

-- whoever is live is the one that has its number
found-alone : (n : ℕ) (ms : List Member) (m : Member) → is_numbered_from 1 ms ≡ true → member_with ms n ≡ Some m → find (λ x. x.n == n) ms ≡ Some m
found-alone n ms m numbered e = by (find (λ x. x.n == n) ms) (sym (live-found ms 1 n numbered) ∙ e)
  where
    live : (x : Member) (l : Bool) → cond l (Some x) None ≡ Some m → Some x ≡ Some m
    live x true e = e
    live x false e = absurd (let clash : ◌≡◌ {A = Option Member} None (Some m) = e in cc)

    by : (o : Option Member) → option_map_or if_live o None ≡ Some m → o ≡ Some m
    by None e = e
    by (Some x) e = live x x.is_live e

pub cut-counted : (many n : ℕ) (ms : List Member) (cut : List ℕ) (p : Member → Bool) → is_numbered_from 1 ms ≡ true → option_map_or p (member_with ms n) false ≡ true →
    AreCut ms cut → AreCut (map (counted_at many n) ms) (with_cut many n ms cut)
cut-counted many n ms cut p numbered live h k = by (member_with ms n) refl live
  where
    noted : (b : Bool) → list_any (λ j. j == k) (cond b (cut ++ n ∷ []) cut) ≡ (list_any (λ j. j == k) cut || (n == k && b))
    noted true = list_any-append (λ j. j == k) cut (n ∷ []) ∙ ap (λ (b : Bool). list_any (λ j. j == k) cut || b) (last (n == k))
      where
        last : (b : Bool) → (b || false) ≡ (b && true)
        last true = refl
        last false = refl
    noted false = none (n == k)
      where
        none : (b : Bool) → list_any (λ j. j == k) cut ≡ (list_any (λ j. j == k) cut || (b && false))
        none true = sym (or-false (list_any (λ j. j == k) cut))
        none false = sym (or-false (list_any (λ j. j == k) cut))

    told-there : (m : Member) → member_with ms n ≡ Some m → is_cut_by many n ms ≡ is_cut_now many m
    told-there m e = ap (λ (o : Option Member). nat_lt 0 many && not (option_map_or (is_told many) o false)) (found-alone n ms m numbered e)

    by : (o : Option Member) → member_with ms n ≡ o → option_map_or p o false ≡ true → list_any (λ j. j == k) (with_cut many n ms cut) ≡ cut_at (map (counted_at many n) ms) k
    by None e t = absurd (true≢false (sym t))
    by (Some m) e t =
        noted (is_cut_by many n ms)
        ∙ ap (λ (b : Bool). b || (n == k && is_cut_by many n ms)) (h k)
        ∙ ap (λ (b : Bool). cut_at ms k || (n == k && b)) (told-there m e)
        ∙ sym (counted-at many n k ms ∙ ap (λ (o : Option Member). cut_at ms k || (n == k && option_map_or (is_cut_now many) o false)) e)
