-- Parcels are put by the senders of their members.
use Rattle.std.proofs.Common.{◌≡◌, ◌≢◌, ℕ, zero, suc, ◌+◌, ◌<◌, ◌≤◌, true, false, List, [], ◌∷◌, ◌++◌, length, get_or, Option, Some, None, append_assoc, append-nil, refl, sym, ap, ◌∙◌, arith}
use Rattle.std.specs.Prelude.{◌==◌, slice_set}
use Rattle.std.proofs.lemmas.Bool.Decides.{nat_tests}
use Rattle.std.proofs.lemmas.List.Elements.{filter-append}
use Rattle.floor_machine.specs.Parcel.{Parcel}
use Rattle.floor_machine.specs.Journal.{sent_to}
use Rattle.floor_outbox.specs.Ends.{PairId, Sender}
use Rattle.floor_serve.specs.Senders.{fed, pair_of, pairs_of, sender_of, with_put}
use Rattle.floor_serve.proofs.Ordered.{any-default}

-- an sender with nothing more
with_nothing : (o : Option Sender) → with_put o [] ≡ o
with_nothing None = refl
with_nothing (Some s) = ap (λ (ps : List Parcel). Some (record { pair = s.pair; put = ps })) (append-nil s.put)

-- a parcel for another member
other : (a n : ℕ) → a ≢ n → (a == n) ≡ false
other a n h = grind (arith, nat_tests)

own : (a n : ℕ) → a ≡ n → (a == n) ≡ true
own a n h = grind (arith, nat_tests)

to_other : (p : Parcel) (n : ℕ) → p.n ≢ n → sent_to n (p ∷ []) ≡ []
to_other p n h = rw (other p.n n h) refl

to_own : (p : Parcel) (n : ℕ) → p.n ≡ n → sent_to n (p ∷ []) ≡ p ∷ []
to_own p n h = rw (own p.n n h) refl

-- no parcels change no sender
pub fed-none : (n : ℕ) (os : List (Option Sender)) → fed [] n os ≡ os
fed-none n [] = refl
fed-none n (o ∷ os) = ap (λ (x : Option Sender). x ∷ fed [] (n + 1) os) (with_nothing o) ∙ ap (λ (xs : List (Option Sender)). o ∷ xs) (fed-none (n + 1) os)

-- a parcel for none of these members changes no sender
pub fed-below : (p : Parcel) (n : ℕ) (os : List (Option Sender)) → p.n < n → fed (p ∷ []) n os ≡ os
fed-below p n [] h = refl
fed-below p n (o ∷ os) h =
    ap (λ (ps : List Parcel). with_put o ps ∷ fed (p ∷ []) (n + 1) os) (to_other p n (omega arith))
    ∙ ap (λ (x : Option Sender). x ∷ fed (p ∷ []) (n + 1) os) (with_nothing o)
    ∙ ap (λ (xs : List (Option Sender)). o ∷ xs) (fed-below p (n + 1) os (omega arith))

pub fed-above : (p : Parcel) (n : ℕ) (os : List (Option Sender)) → n + length os ≤ p.n → fed (p ∷ []) n os ≡ os
fed-above p n [] h = refl
fed-above p n (o ∷ os) h =
    ap (λ (ps : List Parcel). with_put o ps ∷ fed (p ∷ []) (n + 1) os) (to_other p n (omega arith))
    ∙ ap (λ (x : Option Sender). x ∷ fed (p ∷ []) (n + 1) os) (with_nothing o)
    ∙ ap (λ (xs : List (Option Sender)). o ∷ xs) (fed-above p (n + 1) os (omega arith))

-- a parcel changes the sender of its member
pub fed-one : (p : Parcel) (n i : ℕ) (os : List (Option Sender)) (o new : Option Sender) → p.n ≡ n + i → i < length os → o ≡ get_or os i o → new ≡ with_put o (p ∷ []) →
    slice_set os i new ≡ fed (p ∷ []) n os
fed-one p n i [] o new e h g is = absurd (omega arith)
fed-one p n zero (x ∷ os) o new e h g is =
    ap (λ (y : Option Sender). y ∷ os) (is ∙ ap (λ (y : Option Sender). with_put y (p ∷ [])) g)
    ∙ ap (λ (xs : List (Option Sender)). with_put x (p ∷ []) ∷ xs) (sym (fed-below p (n + 1) os (omega arith)))
    ∙ ap (λ (ps : List Parcel). with_put x ps ∷ fed (p ∷ []) (n + 1) os) (sym (to_own p n (omega arith)))
fed-one p n (suc i) (x ∷ os) o new e h g is =
    ap (λ (xs : List (Option Sender)). x ∷ xs) (fed-one p (n + 1) i os o new (omega arith) (omega arith) g is)
    ∙ ap (λ (y : Option Sender). y ∷ fed (p ∷ []) (n + 1) os) (sym (with_nothing x))
    ∙ ap (λ (ps : List Parcel). with_put x ps ∷ fed (p ∷ []) (n + 1) os) (sym (to_other p n (omega arith)))

with_more : (ps qs : List Parcel) (o : Option Sender) → with_put (with_put o ps) qs ≡ with_put o (ps ++ qs)
with_more ps qs None = refl
with_more ps qs (Some s) = ap (λ (more : List Parcel). Some (record { pair = s.pair; put = more })) (append_assoc s.put ps qs)

-- first some parcels, then others
pub fed-append : (ps qs : List Parcel) (n : ℕ) (os : List (Option Sender)) → fed qs n (fed ps n os) ≡ fed (ps ++ qs) n os
fed-append ps qs n [] = refl
fed-append ps qs n (o ∷ os) =
    ap (λ (x : Option Sender). x ∷ fed qs (n + 1) (fed ps (n + 1) os))
    (with_more (sent_to n ps) (sent_to n qs) o ∙ ap (with_put o) (sym (filter-append (λ p. p.n == n) ps qs)))
    ∙ ap (λ (xs : List (Option Sender)). with_put o (sent_to n (ps ++ qs)) ∷ xs) (fed-append ps qs (n + 1) os)

-- nobody's number is 0
pub pairs-zero : (os : List (Option Sender)) (n : ℕ) (ws : List PairId) → n ≡ 0 → ws ≡ ws ++ pair_of (sender_of os n)
pairs-zero os n ws e = sym (append-nil ws) ∙ ap (λ (k : ℕ). ws ++ pair_of (sender_of os k)) (sym e)

-- the member at a place
pub pairs-there : (os : List (Option Sender)) (n i : ℕ) (o : Option Sender) → n ≡ 1 + i → i < length os → o ≡ get_or os i o → pair_of o ≡ pair_of (sender_of os n)
pairs-there os n i o e h g =
    ap pair_of (g ∙ any-default os i o None h) ∙ ap (λ (k : ℕ). pair_of (sender_of os k)) (next i ∙ sym e)
  where
    next : (a : ℕ) → suc a ≡ 1 + a
    next a = omega arith

get-past : (os : List (Option Sender)) (i : ℕ) → length os ≤ i → get_or os i None ≡ None
get-past [] i h = refl
get-past (o ∷ os) zero h = absurd (omega arith)
get-past (o ∷ os) (suc i) h = get-past os i (omega arith)

-- nobody has a number behind the last
pub pairs-past : (os : List (Option Sender)) (n i : ℕ) (ws : List PairId) → n ≡ 1 + i → length os ≤ i → ws ≡ ws ++ pair_of (sender_of os n)
pairs-past os n i ws e h =
    sym (append-nil ws)
    ∙ ap (λ (o : Option Sender). ws ++ pair_of o) (sym (get-past os i h))
    ∙ ap (λ (k : ℕ). ws ++ pair_of (sender_of os k)) (next i ∙ sym e)
  where
    next : (a : ℕ) → suc a ≡ 1 + a
    next a = omega arith

put-pair : (o : Option Sender) (ps : List Parcel) → pair_of (with_put o ps) ≡ pair_of o
put-pair None ps = refl
put-pair (Some s) ps = refl

fed-pair : (ps : List Parcel) (n k : ℕ) (os : List (Option Sender)) → pair_of (get_or (fed ps n os) k None) ≡ pair_of (get_or os k None)
fed-pair ps n k [] = refl
fed-pair ps n zero (o ∷ os) = put-pair o (sent_to n ps)
fed-pair ps n (suc k) (o ∷ os) = fed-pair ps (n + 1) k os

-- whoever was put more is of the same pair
sender-pair : (ps : List Parcel) (n : ℕ) (os : List (Option Sender)) → pair_of (sender_of (fed ps 1 os) n) ≡ pair_of (sender_of os n)
sender-pair ps zero os = refl
sender-pair ps (suc k) os = fed-pair ps 1 k os

pairs-append : (os : List (Option Sender)) (ps qs : List Parcel) → pairs_of os (ps ++ qs) ≡ pairs_of os ps ++ pairs_of os qs
pairs-append os [] qs = refl
pairs-append os (p ∷ ps) qs =
    ap (λ (ws : List PairId). pair_of (sender_of os p.n) ++ ws) (pairs-append os ps qs)
    ∙ sym (append_assoc (pair_of (sender_of os p.n)) (pairs_of os ps) (pairs_of os qs))

-- one parcel more is told
pub told-more : (os now : List (Option Sender)) (before mid new : List PairId) (ps : List Parcel) (p : Parcel) → mid ≡ before ++ pairs_of os ps → now ≡ fed ps 1 os →
    new ≡ mid ++ pair_of (sender_of now p.n) → new ≡ before ++ pairs_of os (ps ++ p ∷ [])
told-more os now before mid new ps p e f g =
    g
    ∙ ap (λ (o : List (Option Sender)). mid ++ pair_of (sender_of o p.n)) f
    ∙ ap (λ (ws : List PairId). mid ++ ws) (sender-pair ps p.n os)
    ∙ ap (λ (ws : List PairId). ws ++ pair_of (sender_of os p.n)) e
    ∙ append_assoc before (pairs_of os ps) (pair_of (sender_of os p.n))
    ∙ ap (λ (ws : List PairId). before ++ (pairs_of os ps ++ ws)) (sym (append-nil (pair_of (sender_of os p.n))))
    ∙ ap (λ (ws : List PairId). before ++ ws) (sym (pairs-append os ps (p ∷ [])))
