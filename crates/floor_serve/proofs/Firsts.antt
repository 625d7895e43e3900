-- The first place at which something isn't so.
use Rattle.std.proofs.Common.{◌≡◌, ⊎_elim, ◌⊎◌, inl, inr, ℕ, zero, suc, ◌+◌, ◌<◌, ◌≤◌, min, Bool, true, false, true≢false, List, [], ◌∷◌, ◌++◌, length, get_or, map, take, Option, Some, None, refl, sym, ap, subst, ◌∙◌, arith}
use Rattle.std.specs.Prelude.{◌==◌, nat_le, slice_get, IfSome, IfErr, Result, Ok, Err}
use Rattle.std.specs.Result.{IsErrAnd}
use Rattle.std.proofs.lemmas.Bool.Decides.{nat_tests}
use Rattle.std.proofs.lemmas.List.{map-append}
use Rattle.std.proofs.lemmas.List.Sums.{sum_by-append}
use Rattle.floor_serve.specs.Booth as spec
use Rattle.floor_serve.specs.Finish.{Agrees, AgreesWithAll, AreWhole, Finished, IsGood, Looked, numbers_of}
use Rattle.floor_serve.specs.Seat.{Seat}
use Rattle.floor_serve.specs.Table.{is_opened}
use Rattle.floor_serve.specs.declared.fault.FinishFault.{FinishFault}
use Rattle.floor_serve.specs.steps.First.{AgreesAt, AgreesWithAllAt, AllFound, IsFirst, KnownAt, SingleAt}

below : (a b : ℕ) → nat_le a b ≡ true → a ≤ b
below a b e = grind (arith, nat_tests)

above : (a b : ℕ) → nat_le a b ≡ false → b < a
above a b e = grind (arith, nat_tests)

-- the lesser of two is one of them
lesser : (a b c : ℕ) → c ≡ min a b → (c ≡ a) ⊎ (c ≡ b)
lesser a b c e = by (nat_le a b) refl
  where
    left : a ≤ b → c ≡ a
    left h = omega arith

    right : b < a → c ≡ b
    right h = omega arith

    by : (t : Bool) → nat_le a b ≡ t → (c ≡ a) ⊎ (c ≡ b)
    by true f = inl (left (below a b f))
    by false f = inr (right (above a b f))

pub first-here : (P : ℕ → Type 0) (count i : ℕ) → i ≤ count → ((k : ℕ) → k < i → P k) → (P i → ⊥) → IsFirst P count i
first-here P count i h before fault = record { within = h; before = before; fault = λ l. fault }

pub first-none : (P : ℕ → Type 0) (count i : ℕ) → i ≡ count → ((k : ℕ) → k < i → P k) → IsFirst P count i
first-none P count i e before = record { within = omega arith; before = before; fault = λ l. absurd (omega arith) }

first-both : (P Q : ℕ → Type 0) (count a b c : ℕ) → c ≡ min a b → IsFirst P count a → IsFirst Q count b → IsFirst (λ k. P k × Q k) count c
first-both P Q count a b c e p q =
    record {
      within = omega (arith, p.within, q.within);
      before = λ k l. (p.before k (omega arith), q.before k (omega arith));
      fault = λ l both. ⊎_elim
          (λ (same : c ≡ a). p.fault (subst (λ (x : ℕ). x < count) same l) (subst P same both.0))
          (λ (same : c ≡ b). q.fault (subst (λ (x : ℕ). x < count) same l) (subst Q same both.1))
          (lesser a b c e);
    }

first-same : (P Q : ℕ → Type 0) (count i : ℕ) → ((k : ℕ) → P k → Q k) → ((k : ℕ) → Q k → P k) → IsFirst P count i → IsFirst Q count i
first-same P Q count i to from h = record { within = h.within; before = λ k l. to k (h.before k l); fault = λ l q. h.fault l (from i q) }

pub some-at : {A : Type 0} (xs : List A) (i : ℕ) (x : A) → i < length xs → x ≡ get_or xs i x → slice_get xs i ≡ Some x
some-at [] i x h e = absurd (omega arith)
some-at (y ∷ ys) zero x h e = ap (λ z. Some z) (sym e)
some-at (y ∷ ys) (suc i) x h e = some-at ys i x (omega arith) e

pub if-some : {A : Type 0} (P : A → Type 0) (o : Option A) (x : A) → o ≡ Some x → P x → IfSome o P
if-some P o x e p = subst (λ y. IfSome y P) (sym e) p

pub of-some : {A : Type 0} (P : A → Type 0) (o : Option A) (x : A) → o ≡ Some x → IfSome o P → P x
of-some P o x e p = subst (λ y. IfSome y P) e p

-- one place further
pub before-more : (P : ℕ → Type 0) (i : ℕ) → ((k : ℕ) → k < i → P k) → P i → (k : ℕ) → k < i + 1 → P k
before-more P i h p k l = by (nat_le i k) refl
  where
    by : (t : Bool) → nat_le i k ≡ t → P k
    by true f = let g : i ≤ k = below i k f in let same : i ≡ k = omega arith in subst P same p
    by false f = h k (above i k f)

agrees-more : (looked : List Looked) (l : Looked) (s : Seat) → AgreesWithAll looked s → Agrees l s → AgreesWithAll (looked ++ l ∷ []) s
agrees-more [] l s h a = (a, tt)
agrees-more (m ∷ looked) l s h a = (h.0, agrees-more looked l s h.1 a)

agrees-front : (looked : List Looked) (l : Looked) (s : Seat) → AgreesWithAll (looked ++ l ∷ []) s → AgreesWithAll looked s
agrees-front [] l s h = tt
agrees-front (m ∷ looked) l s h = (h.0, agrees-front looked l s h.1)

agrees-last : (looked : List Looked) (l : Looked) (s : Seat) → AgreesWithAll (looked ++ l ∷ []) s → Agrees l s
agrees-last [] l s h = h.0
agrees-last (m ∷ looked) l s h = agrees-last looked l s h.1

agrees-at : (looked : List Looked) (l : Looked) (o : Option Seat) → IfSome o (AgreesWithAll looked) × IfSome o (Agrees l) → IfSome o (AgreesWithAll (looked ++ l ∷ []))
agrees-at looked l None h = tt
agrees-at looked l (Some s) h = agrees-more looked l s h.0 h.1

agrees-apart : (looked : List Looked) (l : Looked) (o : Option Seat) → IfSome o (AgreesWithAll (looked ++ l ∷ [])) → IfSome o (AgreesWithAll looked) × IfSome o (Agrees l)
agrees-apart looked l None h = (tt, tt)
agrees-apart looked l (Some s) h = (agrees-front looked l s h, agrees-last looked l s h)

whole-more : (looked : List Looked) (l : Looked) → AreWhole looked → spec.IsBooth l.booth → l.booth.ledger.is_broken ≡ false → AreWhole (looked ++ l ∷ [])
whole-more [] l h k e = (k, e, tt)
whole-more (m ∷ looked) l h k e = (h.0, h.1, whole-more looked l h.2 k e)

agreed-by-none : (seats : List Seat) (k : ℕ) → AgreesWithAllAt [] seats k
agreed-by-none seats k = by (slice_get seats k)
  where
    by : (o : Option Seat) → IfSome o (AgreesWithAll [])
    by None = tt
    by (Some s) = tt

pub found-none : (seats : List Seat) (opened : List ℕ) (count : ℕ) → opened ≡ [] → count ≡ length seats → AllFound opened seats 0 count
found-none seats opened count e f =
    record {
      looked = [];
      whole = tt;
      numbers_are = e;
      events_are = refl;
      first = first-none (AgreesWithAllAt [] seats) (length seats) count f (λ k l. agreed-by-none seats k);
    }

-- one more conference
pub found-more : (opened now : List ℕ) (seats : List Seat) (events unfit more place new least conference : ℕ) (booth : spec.Booth) → AllFound opened seats events unfit → now ≡ opened ++ conference ∷ [] →
    spec.IsBooth booth → booth.ledger.is_broken ≡ false → more ≡ length booth.ledger.journal → IsFirst (AgreesAt booth conference seats) (length seats) place →
    new ≡ events + more → least ≡ min unfit place → AllFound now seats new least
found-more opened now seats events unfit more place new least conference booth h is kept unbroken count first sum low =
    let l : Looked = record { conference = conference; booth = booth } in
    record {
      looked = h.looked ++ l ∷ [];
      whole = whole-more h.looked l h.whole kept unbroken;
      numbers_are = is ∙ ap (λ (ns : List ℕ). ns ++ conference ∷ []) h.numbers_are ∙ sym (map-append (λ (x : Looked). x.conference) h.looked (l ∷ []));
      events_are = omega (arith, h.events_are, count, sum, sum_by-append (λ (x : Looked). length x.booth.ledger.journal) h.looked (l ∷ []));
      first = first-same (λ k. AgreesWithAllAt h.looked seats k × AgreesAt booth conference seats k) (AgreesWithAllAt (h.looked ++ l ∷ []) seats) (length seats) least
          (λ k. agrees-at h.looked l (slice_get seats k)) (λ k. agrees-apart h.looked l (slice_get seats k))
          (first-both (AgreesWithAllAt h.looked seats) (AgreesAt booth conference seats) (length seats) unfit place least low h.first first);
    }

-- a conference that is broken off ends the search
pub found-broken : (front all rest : List ℕ) (seats : List Seat) (events unfit conference : ℕ) (booth : spec.Booth) (fault : FinishFault) → AllFound front seats events unfit → all ≡ front ++ conference ∷ rest →
    spec.IsBooth booth → booth.ledger.is_broken ≡ true → fault ≡ FinishFault.Broken conference → Finished all seats (Err fault)
found-broken front all rest seats events unfit conference booth fault h parts kept broken is =
    subst (λ (f : FinishFault). Finished all seats (Err f)) (sym is)
    (record {
      looked = h.looked;
      whole = h.whole;
      answer = record {
        rest = rest;
        parts = parts ∙ ap (λ (ns : List ℕ). ns ++ conference ∷ rest) h.numbers_are;
        booth = booth;
        kept = kept;
        broken = broken;
      };
    })

-- the numbers of the slots up to one, and those behind it
pub numbers-apart : {A : Type 0} (f : A → ℕ) (xs : List A) (i : ℕ) (x : A) → i < length xs → x ≡ get_or xs i x → (rest : List ℕ) × (map f xs ≡ map f (take i xs) ++ f x ∷ rest)
numbers-apart f [] i x h e = absurd (omega arith)
numbers-apart f (y ∷ ys) zero x h e = (map f ys, ap (λ z. f z ∷ map f ys) (sym e))
numbers-apart f (y ∷ ys) (suc i) x h e = let r = numbers-apart f ys i x (omega arith) e in (r.0, ap (λ (ns : List ℕ). f y ∷ ns) r.1)

pub numbers-more : {A : Type 0} (f : A → ℕ) (xs : List A) (i : ℕ) (x : A) → i < length xs → x ≡ get_or xs i x → map f (take (i + 1) xs) ≡ map f (take i xs) ++ f x ∷ []
numbers-more f [] i x h e = absurd (omega arith)
numbers-more f (y ∷ ys) zero x h e = ap (λ z. f z ∷ []) (sym e)
numbers-more f (y ∷ ys) (suc i) x h e = ap (λ (k : ℕ). map f (take k (y ∷ ys))) (shift i) ∙ ap (λ (ns : List ℕ). f y ∷ ns) (numbers-more f ys i x (omega arith) e)
  where
    shift : (a : ℕ) → suc a + 1 ≡ suc (a + 1)
    shift a = omega arith

-- what is good of a seat, in three parts
good-of : (looked : List Looked) (opened : List ℕ) (seats : List Seat) (k : ℕ) → opened ≡ numbers_of looked → AgreesWithAllAt looked seats k × (KnownAt opened seats k × SingleAt seats k) → IsGood looked seats k
good-of looked opened seats k e h =
    record { known = subst (λ (ns : List ℕ). KnownAt ns seats k) e h.1.0; agrees = h.0; single = h.1.1 }

parts-of : (looked : List Looked) (opened : List ℕ) (seats : List Seat) (k : ℕ) → opened ≡ numbers_of looked → IsGood looked seats k → AgreesWithAllAt looked seats k × (KnownAt opened seats k × SingleAt seats k)
parts-of looked opened seats k e h = (h.agrees, (subst (λ (ns : List ℕ). KnownAt ns seats k) (sym e) h.known, h.single))

first-good : (opened : List ℕ) (seats : List Seat) (events unfit stray double low place : ℕ) (h : AllFound opened seats events unfit) → IsFirst (KnownAt opened seats) (length seats) stray → IsFirst (SingleAt seats) (length seats) double →
    low ≡ min stray double → place ≡ min unfit low → IsFirst (IsGood h.looked seats) (length seats) place
first-good opened seats events unfit stray double low place h known single e f =
    first-same (λ k. AgreesWithAllAt h.looked seats k × (KnownAt opened seats k × SingleAt seats k)) (IsGood h.looked seats) (length seats) place
    (λ k. good-of h.looked opened seats k h.numbers_are) (λ k. parts-of h.looked opened seats k h.numbers_are)
    (first-both (AgreesWithAllAt h.looked seats) (λ k. KnownAt opened seats k × SingleAt seats k) (length seats) unfit low place f h.first
    (first-both (KnownAt opened seats) (SingleAt seats) (length seats) stray double low e known single))

-- every seat fits
pub finished-ok : (opened : List ℕ) (seats : List Seat) (events unfit stray double low place : ℕ) → AllFound opened seats events unfit → IsFirst (KnownAt opened seats) (length seats) stray → IsFirst (SingleAt seats) (length seats) double →
    low ≡ min stray double → place ≡ min unfit low → length seats ≤ place → Finished opened seats (Ok (record { seats = length seats; events = events }))
finished-ok opened seats events unfit stray double low place h known single e f past =
    let first = first-good opened seats events unfit stray double low place h known single e f in
    record {
      looked = h.looked;
      whole = h.whole;
      answer = (h.numbers_are, record { good = λ k l. first.before k (omega arith); seats_are = refl; events_are = h.events_are });
    }

-- a seat doesn't fit
pub finished-err : (opened : List ℕ) (seats : List Seat) (events unfit stray double low place : ℕ) (s : Seat) → AllFound opened seats events unfit → IsFirst (KnownAt opened seats) (length seats) stray → IsFirst (SingleAt seats) (length seats) double →
    low ≡ min stray double → place ≡ min unfit low → place < length seats → slice_get seats place ≡ Some s → Finished opened seats (Err (FinishFault.Mismatch s.conference s.n))
finished-err opened seats events unfit stray double low place s h known single e f within there =
    let first = first-good opened seats events unfit stray double low place h known single e f in
    record {
      looked = h.looked;
      whole = h.whole;
      answer = (
        h.numbers_are,
        record {
          place = place;
          seat = s;
          stands = there;
          conference_is = refl;
          n_is = refl;
          before = first.before;
          fault = first.fault within;
        },
      );
    }

-- the same, of whom it is said
pub finished-mismatch : (opened : List ℕ) (seats : List Seat) (events unfit stray double low place conference n : ℕ) (s : Seat) → AllFound opened seats events unfit → IsFirst (KnownAt opened seats) (length seats) stray →
    IsFirst (SingleAt seats) (length seats) double → low ≡ min stray double → place ≡ min unfit low → place < length seats → slice_get seats place ≡ Some s → conference ≡ s.conference → n ≡ s.n →
    Finished opened seats (Err (FinishFault.Mismatch conference n))
finished-mismatch opened seats events unfit stray double low place conference n s h known single e f within there c m =
    subst (λ (x : ℕ). Finished opened seats (Err (FinishFault.Mismatch x n))) (sym c)
    (subst (λ (x : ℕ). Finished opened seats (Err (FinishFault.Mismatch s.conference x))) (sym m) (finished-err opened seats events unfit stray double low place s h known single e f within there))

any-append : (c : ℕ) (xs : List ℕ) (x : ℕ) → is_opened xs c ≡ false → (x == c) ≡ false → is_opened (xs ++ x ∷ []) c ≡ false
any-append c [] x h e = rw e refl
any-append c (y ∷ xs) x h e = by (y == c) refl h (λ k. any-append c xs x k e)
  where
    by : (b : Bool) → (y == c) ≡ b → is_opened (y ∷ xs) c ≡ false → (is_opened xs c ≡ false → is_opened (xs ++ x ∷ []) c ≡ false) → is_opened ((y ∷ xs) ++ x ∷ []) c ≡ false
    by true f g more = let k : true ≡ false = rw f at g in absurd (true≢false k)
    by false f g more = rw f (more (rw f at g))

other-number : (a b : ℕ) → (a ≡ b → ⊥) → (a == b) ≡ false
other-number a b h = grind (arith, nat_tests)

own-number : (a b : ℕ) → a ≡ b → (a == b) ≡ true
own-number a b h = grind (arith, nat_tests)

-- no slot so far has the number
pub opened-more : {A : Type 0} (f : A → ℕ) (xs : List A) (i : ℕ) (x : A) (c : ℕ) → i < length xs → x ≡ get_or xs i x → is_opened (map f (take i xs)) c ≡ false → (f x ≡ c → ⊥) → is_opened (map f (take (i + 1) xs)) c ≡ false
opened-more f xs i x c h e none apart =
    subst (λ (ns : List ℕ). is_opened ns c ≡ false) (sym (numbers-more f xs i x h e)) (any-append c (map f (take i xs)) (f x) none (other-number (f x) c apart))

-- a slot has the number
pub opened-at : {A : Type 0} (f : A → ℕ) (xs : List A) (i : ℕ) (x : A) (c : ℕ) → i < length xs → x ≡ get_or xs i x → f x ≡ c → is_opened (map f xs) c ≡ true
opened-at f [] i x c h e is = absurd (omega arith)
opened-at f (y ∷ ys) zero x c h e is = let same : f y ≡ c = ap f (sym e) ∙ is in rw (own-number (f y) c same) refl
opened-at f (y ∷ ys) (suc i) x c h e is = by (f y == c) refl (opened-at f ys i x c (omega arith) e is)
  where
    by : (b : Bool) → (f y == c) ≡ b → is_opened (map f ys) c ≡ true → is_opened (map f (y ∷ ys)) c ≡ true
    by true g k = rw g refl
    by false g k = rw g k

-- a fault that is handed on
pub err-as : {A : Type 0} (P : FinishFault → Type 0) (result : Result A FinishFault) (e : FinishFault) → IsErrAnd result (λ x. x ≡ e) → P e → IfErr result P
err-as P (Ok x) e h p = absurd h
err-as P (Err x) e h p = subst P (sym h) p
