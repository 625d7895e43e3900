-- What each of a list has, each has still as the list changes.
use Rattle.std.proofs.Common.{◌≡◌, ℕ, zero, suc, Bool, true, false, not, List, [], ◌∷◌, ◌++◌, take, drop, Option, Some, None, subst, if◌then◌else◌}
use Rattle.std.specs.Prelude.{slice_get, slice_set}
use Rattle.std.specs.List.{AllByRecursion, insert}
use Rattle.floor_datagram.specs.Notices.{put_at}
use Rattle.floor_datagram.specs.Own.{has_status, is_own, is_ongoing, own_after, place_in, removed}

pub each-map : {X : Type 0} (P Q : X → Type 0) (f : (x : X) → P x → Q x) (xs : List X) → AllByRecursion P xs → AllByRecursion Q xs
each-map P Q f [] p = tt
each-map P Q f (x ∷ xs) p = (f x p.0, each-map P Q f xs p.1)

pub each-append : {X : Type 0} (P : X → Type 0) (xs ys : List X) → AllByRecursion P xs → AllByRecursion P ys → AllByRecursion P (xs ++ ys)
each-append P [] ys p q = q
each-append P (x ∷ xs) ys p q = (p.0, each-append P xs ys p.1 q)

pub each-take : {X : Type 0} (P : X → Type 0) (n : ℕ) (xs : List X) → AllByRecursion P xs → AllByRecursion P (take n xs)
each-take P zero xs p = tt
each-take P (suc n) [] p = tt
each-take P (suc n) (x ∷ xs) p = (p.0, each-take P n xs p.1)

pub each-drop : {X : Type 0} (P : X → Type 0) (n : ℕ) (xs : List X) → AllByRecursion P xs → AllByRecursion P (drop n xs)
each-drop P zero xs p = p
each-drop P (suc n) [] p = tt
each-drop P (suc n) (x ∷ xs) p = each-drop P n xs p.1

pub each-insert : {X : Type 0} (P : X → Type 0) (xs : List X) (n : ℕ) (y : X) → AllByRecursion P xs → P y → AllByRecursion P (insert xs n y)
each-insert P xs n y p q = each-append P (take n xs) (y ∷ drop n xs) (each-take P n xs p) (q, each-drop P n xs p)

pub each-at : {X : Type 0} (P : X → Type 0) (xs : List X) (i : ℕ) (x : X) → slice_get xs i ≡ Some x → AllByRecursion P xs → P x
each-at P [] i x is h = absurd (cc is)
each-at {X = X} P (y ∷ ys) zero x is h = subst P (inside y x is) h.0
  where
    inside : (a b : X) → Some a ≡ Some b → a ≡ b
    inside a b e = cc
each-at P (y ∷ ys) (suc i) x is h = each-at P ys i x is h.1

each-set : {X : Type 0} (P : X → Type 0) (ws : List X) (i : ℕ) (m : X) → AllByRecursion P ws → P m → AllByRecursion P (slice_set ws i m)
each-set P [] i m h p = tt
each-set P (w ∷ ws) zero m h p = (p, h.1)
each-set P (w ∷ ws) (suc i) m h p = (h.0, each-set P ws i m h.1 p)

pub each-put : (P : List ℕ → Type 0) (o : Option ℕ) (m : List ℕ) (ws : List (List ℕ)) → AllByRecursion P ws → P m → AllByRecursion P (put_at o m ws)
each-put P None m ws h p = each-append P ws (m ∷ []) h (p, tt)
each-put P (Some place) m ws h p = each-set P ws place m h p

pub each-removed : (P : List ℕ → Type 0) (o : Option ℕ) (ws : List (List ℕ)) → AllByRecursion P ws → AllByRecursion P (removed o ws)
each-removed P None ws h = h
each-removed P (Some place) ws h = each-append P _ _ (each-take P place ws h) (each-drop P (suc place) ws h)

choose-each : (P : List ℕ → Type 0) (b : Bool) (x y : List (List ℕ)) → AllByRecursion P x → AllByRecursion P y → AllByRecursion P (if b then x else y)
choose-each P true x y p q = p
choose-each P false x y p q = q

pub each-own : (P : List ℕ → Type 0) (last : Option ℕ) (primitive : ℕ) (ws : List (List ℕ)) (m : List ℕ) → AllByRecursion P ws → P m → AllByRecursion P (own_after last primitive ws m)
each-own P last primitive ws m h p =
    let less = each-removed P (place_in m ws) ws h in
    choose-each P (not (has_status m)) ws _ h
    (choose-each P (not (is_own last primitive ws m)) ws _ h
    (choose-each P (is_ongoing m) (removed (place_in m ws) ws ++ m ∷ []) (removed (place_in m ws) ws) (each-append P (removed (place_in m ws) ws) (m ∷ []) less (p, tt)) less))
