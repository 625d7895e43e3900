-- Whom an event tells something: the members for whom parcels were put into outboxes.
use Rattle.std.proofs.Common.{◌≡◌, ℕ, zero, suc, ◌+◌, Bool, true, false, cond, List, [], ◌∷◌, ◌++◌, length, Option, Some, None, refl, sym, ap, subst, ◌∙◌, arith, append-nil, length-append}
use Rattle.std.specs.Prelude.{◌==◌, ◌||◌, ◌&&◌, is_some, nat_lt, slice_get}
use Rattle.std.specs.List.{list_any}
use Rattle.std.specs.Option.{option_map, option_map_or}
use Rattle.std.proofs.lemmas.Bool.{eqb-true, le-ltb, lt-ltb}
use Rattle.std.proofs.lemmas.List.Folds.{list_any-append}
use Rattle.floor_machine.specs.declared.event.Event.{Event}
use Rattle.floor_machine.specs.Events.{joiner}
use Rattle.floor_machine.specs.Journal.{sent_to}
use Rattle.floor_machine.specs.Parcel.{Parcel}
use Rattle.floor_room.specs.Outbox.{Outbox, delivered, empty_outbox}
use Rattle.floor_room.specs.Room.{joined}
use Rattle.floor_room.specs.Taking.{outbox_of}
use Rattle.floor_room.specs.Told.{AreTold, waiting_in}

-- these are the numbers of the members that have an outbox and to which one of the parcels is
abbrev pub AreOf : List Outbox → List Parcel → List ℕ → Type 0
AreOf os ps told = (n : ℕ) → list_any (λ k. k == n) told ≡ (is_some (outbox_of os n) && list_any (λ p. p.n == n) ps)

and-false : (b : Bool) → false ≡ (b && false)
and-false true = refl
and-false false = refl

-- no parcel is to anybody
pub none-of : (os : List Outbox) (told : List ℕ) → told ≡ [] → AreOf os [] told
none-of os told e n = ap (list_any (λ k. k == n)) e ∙ and-false (is_some (outbox_of os n))

-- parcels leave the outboxes where they are
some-delivered : (ps : List Parcel) (k : ℕ) (os : List Outbox) (j : ℕ) → is_some (slice_get (delivered ps k os) j) ≡ is_some (slice_get os j)
some-delivered ps k [] j = refl
some-delivered ps k (o ∷ os) zero = refl
some-delivered ps k (o ∷ os) (suc j) = some-delivered ps (k + 1) os j

outbox-delivered : (ps : List Parcel) (os : List Outbox) (n : ℕ) → is_some (outbox_of (delivered ps 1 os) n) ≡ is_some (outbox_of os n)
outbox-delivered ps os zero = refl
outbox-delivered ps os (suc j) = some-delivered ps 1 os j

-- one more parcel, whose member is noted
pub of-more : (os now : List Outbox) (ps : List Parcel) (p : Parcel) (told more : List ℕ) → now ≡ delivered ps 1 os → AreOf os ps told →
    ((n : ℕ) → list_any (λ k. k == n) more ≡ (list_any (λ k. k == n) told || is_some (outbox_of now p.n) && p.n == n)) → AreOf os (ps ++ p ∷ []) more
of-more os now ps p told more is before noted n =
    noted n
    ∙ ap (λ (b : Bool). b || is_some (outbox_of now p.n) && p.n == n) (before n)
    ∙ ap (λ (b : Bool). is_some (outbox_of os n) && list_any (λ q. q.n == n) ps || b && p.n == n) (ap (λ (xs : List Outbox). is_some (outbox_of xs p.n)) is ∙ outbox-delivered ps os p.n)
    ∙ by (p.n == n) refl
    ∙ ap (λ (b : Bool). is_some (outbox_of os n) && b) (sym (list_any-append (λ q. q.n == n) ps (p ∷ [])))
  where
    apart : (a b c : Bool) → (a && b || c && false) ≡ (a && (b || false))
    apart true true c = refl
    apart true false true = refl
    apart true false false = refl
    apart false b true = refl
    apart false b false = refl

    same : (a b : Bool) → (a && b || a && true) ≡ (a && (b || true))
    same true true = refl
    same true false = refl
    same false b = refl

    by : (e : Bool) → (p.n == n) ≡ e →
        (is_some (outbox_of os n) && list_any (λ q. q.n == n) ps || is_some (outbox_of os p.n) && e) ≡ (is_some (outbox_of os n) && (list_any (λ q. q.n == n) ps || (e || false)))
    by false e = apart (is_some (outbox_of os n)) (list_any (λ q. q.n == n) ps) (is_some (outbox_of os p.n))
    by true e =
        ap (λ (k : ℕ). is_some (outbox_of os n) && list_any (λ q. q.n == n) ps || is_some (outbox_of os k) && true) (eqb-true p.n n e)
        ∙ same (is_some (outbox_of os n)) (list_any (λ q. q.n == n) ps)

-- more waits where one of the parcels is to the member
longer : (held : List Parcel) (n : ℕ) (ps : List Parcel) → nat_lt (length held) (length (held ++ sent_to n ps)) ≡ list_any (λ p. p.n == n) ps
longer held n [] = le-ltb (length held) (length (held ++ [])) (omega (arith, length-append held []))
longer held n (p ∷ ps) = by (p.n == n) (longer held n ps)
  where
    by : (b : Bool) → nat_lt (length held) (length (held ++ sent_to n ps)) ≡ list_any (λ q. q.n == n) ps →
        nat_lt (length held) (length (held ++ cond b (p ∷ sent_to n ps) (sent_to n ps))) ≡ (b || list_any (λ q. q.n == n) ps)
    by true h = lt-ltb (length held) (length (held ++ p ∷ sent_to n ps)) (omega (arith, length-append held (p ∷ sent_to n ps)))
    by false h = h

-- what waits in the outbox at a place
abbrev held_at : List Outbox → ℕ → List Parcel
held_at os j = option_map_or (λ o. o.held) (slice_get os j) []

longer-at : (n : ℕ) (ps : List Parcel) (k : ℕ) (os : List Outbox) (j : ℕ) → k + j ≡ n →
    nat_lt (length (held_at os j)) (length (held_at (delivered ps k os) j)) ≡ (is_some (slice_get os j) && list_any (λ p. p.n == n) ps)
longer-at n ps k [] j e = refl
longer-at n ps k (o ∷ os) zero e =
    let same : k ≡ n = omega (arith, e) in
    subst (λ (i : ℕ). nat_lt (length o.held) (length (o.held ++ sent_to i ps)) ≡ list_any (λ p. p.n == n) ps) (sym same) (longer o.held n ps)
longer-at n ps k (o ∷ os) (suc j) e = longer-at n ps (k + 1) os j (omega (arith, e))

-- those to whom parcels are were told something
pub are-told : (os now : List Outbox) (ps : List Parcel) (told : List ℕ) → now ≡ delivered ps 1 os → AreOf os ps told → AreTold os now told
are-told os now ps told is of = subst (λ (xs : List Outbox). AreTold os xs told) (sym is) by
  where
    by : AreTold os (delivered ps 1 os) told
    by zero = of zero
    by (suc j) = of (suc j) ∙ sym (longer-at (suc j) ps 1 os j (omega arith))

-- nothing waits for a member that has just joined
held-joined : (os : List Outbox) (j : ℕ) → held_at (os ++ empty_outbox ∷ []) j ≡ held_at os j
held-joined [] zero = refl
held-joined [] (suc j) = refl
held-joined (o ∷ os) zero = refl
held-joined (o ∷ os) (suc j) = held-joined os j

waiting-joined : (os : List Outbox) (e : Event) (n : ℕ) → waiting_in (os ++ joined e) n ≡ waiting_in os n
waiting-joined os e zero = refl
waiting-joined os e (suc j) = by (joiner e)
  where
    by : (o : Option ℕ) → held_at (os ++ option_map_or (λ user. empty_outbox ∷ []) o []) j ≡ held_at os j
    by None = ap (λ (xs : List Outbox). held_at xs j) (append-nil os)
    by (Some user) = held-joined os j

-- whoever was told something since it joined was told something by the event
pub told-joined : (os new more : List Outbox) (e : Event) (told : List ℕ) → more ≡ joined e → AreTold (os ++ more) new told → AreTold os new told
told-joined os new more e told is h n =
    h n ∙ ap (λ (ps : List Parcel). nat_lt (length ps) (length (waiting_in new n))) (ap (λ (xs : List Outbox). waiting_in (os ++ xs) n) is ∙ waiting-joined os e n)

-- the last of some numbers is one of them
pub last-is-one : (xs : List ℕ) (i n : ℕ) → option_map_or (λ k. k == n) (slice_get xs i) false ≡ true → list_any (λ k. k == n) xs ≡ true
last-is-one [] i n h = h
last-is-one (x ∷ xs) zero n h = by (x == n) h
  where
    by : (b : Bool) → b ≡ true → (b || list_any (λ k. k == n) xs) ≡ true
    by true e = refl
    by false e = absurd (never e)
      where
        never : false ≡ true → ⊥
        never w = cc
last-is-one (x ∷ xs) (suc i) n h = by (x == n) (last-is-one xs i n h)
  where
    by : (b : Bool) → list_any (λ k. k == n) xs ≡ true → (b || list_any (λ k. k == n) xs) ≡ true
    by true e = refl
    by false e = e

-- a member that was noted stays noted
pub noted-again : (xs : List ℕ) (b : Bool) (n k : ℕ) → list_any (λ j. j == n) xs ≡ true → list_any (λ j. j == k) xs ≡ (list_any (λ j. j == k) xs || b && n == k)
noted-again xs b n k h = by (n == k) refl
  where
    or-false : (a c : Bool) → a ≡ (a || c && false)
    or-false true c = refl
    or-false false true = refl
    or-false false false = refl

    or-true : (a c : Bool) → a ≡ true → a ≡ (a || c && true)
    or-true true c e = refl
    or-true false c e = absurd (never e)
      where
        never : false ≡ true → ⊥
        never w = cc

    by : (e : Bool) → (n == k) ≡ e → list_any (λ j. j == k) xs ≡ (list_any (λ j. j == k) xs || b && e)
    by false e = or-false (list_any (λ j. j == k) xs) b
    by true e = or-true (list_any (λ j. j == k) xs) b (ap (λ (i : ℕ). list_any (λ j. j == i) xs) (sym (eqb-true n k e)) ∙ h)

-- one that has no outbox isn't noted
pub unnoted : (xs : List ℕ) (b : Bool) (n k : ℕ) → b ≡ false → list_any (λ j. j == k) xs ≡ (list_any (λ j. j == k) xs || b && n == k)
unnoted xs b n k h = by (list_any (λ j. j == k) xs) ∙ ap (λ (c : Bool). list_any (λ j. j == k) xs || c && n == k) (sym h)
  where
    by : (a : Bool) → a ≡ (a || false)
    by true = refl
    by false = refl

-- one that is noted is behind the others
pub noted : (xs more : List ℕ) (b : Bool) (n k : ℕ) → more ≡ xs ++ n ∷ [] → b ≡ true → list_any (λ j. j == k) more ≡ (list_any (λ j. j == k) xs || b && n == k)
noted xs more b n k is h =
    ap (list_any (λ j. j == k)) is ∙ list_any-append (λ j. j == k) xs (n ∷ [])
    ∙ ap (λ (c : Bool). list_any (λ j. j == k) xs || c) (by (n == k)) ∙ ap (λ (c : Bool). list_any (λ j. j == k) xs || c && n == k) (sym h)
  where
    by : (a : Bool) → (a || false) ≡ a
    by true = refl
    by false = refl

-- an outbox is there where something of it is
pub outbox-some : (o : Option Outbox) (held : List Parcel) → Some held ≡ option_map (λ x. x.held) o → true ≡ is_some o
outbox-some None held e = absurd (never e)
  where
    never : ◌≡◌ {A = Option (List Parcel)} (Some held) None → ⊥
    never w = cc
outbox-some (Some o) held e = refl

pub outbox-none : (o : Option Outbox) → ◌≡◌ {A = Option (List Parcel)} None (option_map (λ x. x.held) o) → false ≡ is_some o
outbox-none None e = refl
outbox-none (Some o) e = absurd (never e)
  where
    never : ◌≡◌ {A = Option (List Parcel)} None (Some o.held) → ⊥
    never w = cc
