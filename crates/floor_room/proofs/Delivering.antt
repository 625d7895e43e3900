-- Parcels go to the outboxes of their members.
use Rattle.std.proofs.Common.{◌≡◌, ◌≢◌, ℕ, zero, suc, ◌+◌, ◌<◌, ◌≤◌, true, false, List, [], ◌∷◌, ◌++◌, length, get_or, append_assoc, append-nil, refl, sym, ap, ◌∙◌, arith}
use Rattle.std.specs.Prelude.{◌==◌, slice_set}
use Rattle.std.proofs.lemmas.Bool.Decides.{nat_tests}
use Rattle.std.proofs.lemmas.List.Elements.{filter-append}
use Rattle.floor_machine.specs.Parcel.{Parcel}
use Rattle.floor_machine.specs.Journal.{sent_to}
use Rattle.floor_room.specs.Outbox.{Outbox, delivered, with_held}

-- an outbox with nothing more
with_nothing : (o : Outbox) → with_held o [] ≡ o
with_nothing o = ap (λ (ps : List Parcel). record { taken = o.taken; held = ps }) (append-nil o.held)

-- a parcel for another member
other : (a n : ℕ) → a ≢ n → (a == n) ≡ false
other a n h = grind (arith, nat_tests)

own : (a n : ℕ) → a ≡ n → (a == n) ≡ true
own a n h = grind (arith, nat_tests)

to_other : (p : Parcel) (n : ℕ) → p.n ≢ n → sent_to n (p ∷ []) ≡ []
to_other p n h = rw (other p.n n h) refl

to_own : (p : Parcel) (n : ℕ) → p.n ≡ n → sent_to n (p ∷ []) ≡ p ∷ []
to_own p n h = rw (own p.n n h) refl

-- no parcels change no outbox
pub delivered-none : (n : ℕ) (os : List Outbox) → delivered [] n os ≡ os
delivered-none n [] = refl
delivered-none n (o ∷ os) = ap (λ (x : Outbox). x ∷ delivered [] (n + 1) os) (with_nothing o) ∙ ap (λ (xs : List Outbox). o ∷ xs) (delivered-none (n + 1) os)

-- a parcel for none of these members changes no outbox
pub delivered-below : (p : Parcel) (n : ℕ) (os : List Outbox) → p.n < n → delivered (p ∷ []) n os ≡ os
delivered-below p n [] h = refl
delivered-below p n (o ∷ os) h =
    ap (λ (ps : List Parcel). with_held o ps ∷ delivered (p ∷ []) (n + 1) os) (to_other p n (omega arith))
    ∙ ap (λ (x : Outbox). x ∷ delivered (p ∷ []) (n + 1) os) (with_nothing o)
    ∙ ap (λ (xs : List Outbox). o ∷ xs) (delivered-below p (n + 1) os (omega arith))

pub delivered-above : (p : Parcel) (n : ℕ) (os : List Outbox) → n + length os ≤ p.n → delivered (p ∷ []) n os ≡ os
delivered-above p n [] h = refl
delivered-above p n (o ∷ os) h =
    ap (λ (ps : List Parcel). with_held o ps ∷ delivered (p ∷ []) (n + 1) os) (to_other p n (omega arith))
    ∙ ap (λ (x : Outbox). x ∷ delivered (p ∷ []) (n + 1) os) (with_nothing o)
    ∙ ap (λ (xs : List Outbox). o ∷ xs) (delivered-above p (n + 1) os (omega arith))

-- a parcel changes the outbox of its member
pub delivered-one : (p : Parcel) (n i : ℕ) (os : List Outbox) (o new : Outbox) → p.n ≡ n + i → i < length os → o ≡ get_or os i o → new ≡ with_held o (p ∷ []) →
    slice_set os i new ≡ delivered (p ∷ []) n os
delivered-one p n i [] o new e h g is = absurd (omega arith)
delivered-one p n zero (x ∷ os) o new e h g is =
    ap (λ (y : Outbox). y ∷ os) (is ∙ ap (λ (y : Outbox). with_held y (p ∷ [])) g)
    ∙ ap (λ (xs : List Outbox). with_held x (p ∷ []) ∷ xs) (sym (delivered-below p (n + 1) os (omega arith)))
    ∙ ap (λ (ps : List Parcel). with_held x ps ∷ delivered (p ∷ []) (n + 1) os) (sym (to_own p n (omega arith)))
delivered-one p n (suc i) (x ∷ os) o new e h g is =
    ap (λ (xs : List Outbox). x ∷ xs) (delivered-one p (n + 1) i os o new (omega arith) (omega arith) g is)
    ∙ ap (λ (y : Outbox). y ∷ delivered (p ∷ []) (n + 1) os) (sym (with_nothing x))
    ∙ ap (λ (ps : List Parcel). with_held x ps ∷ delivered (p ∷ []) (n + 1) os) (sym (to_other p n (omega arith)))

-- first some parcels, then others
pub delivered-append : (ps qs : List Parcel) (n : ℕ) (os : List Outbox) → delivered qs n (delivered ps n os) ≡ delivered (ps ++ qs) n os
delivered-append ps qs n [] = refl
delivered-append ps qs n (o ∷ os) =
    ap (λ (held : List Parcel). record { taken = o.taken; held = held } ∷ delivered qs (n + 1) (delivered ps (n + 1) os))
    (append_assoc o.held (sent_to n ps) (sent_to n qs) ∙ ap (λ (more : List Parcel). o.held ++ more) (sym (filter-append (λ p. p.n == n) ps qs)))
    ∙ ap (λ (xs : List Outbox). with_held o (sent_to n (ps ++ qs)) ∷ xs) (delivered-append ps qs (n + 1) os)
