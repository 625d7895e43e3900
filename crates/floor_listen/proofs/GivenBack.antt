-- Ports that are visited, and ports that are handed out, the last first.
use Rattle.std.proofs.Common.{◌≡◌, ◌<◌, ◌≤◌, ◌++◌, ◌∙◌, ℕ, Bool, true, false, cond, List, [], ◌∷◌, length, take, drop, map, reverse, arith, ap, sym, refl, suc, zero, subst}
use Rattle.std.specs.Prelude.{not}
use Rattle.std.specs.List.{FoldsTo}
use Rattle.std.proofs.lemmas.List.{append_assoc, length-take-le, map-append, reverse-append}
use Rattle.std.proofs.lemmas.List.Elements.{filter-append}
use Rattle.floor_listen.specs.Ports.{given, is_chosen, kept}
use Rattle.floor_listen.specs.declared.ports.Chosen.{Chosen}
use Rattle.floor_listen.specs.declared.ports.Listening.{Listening}

-- the first is visited, and then those behind it
pub visited_first : {L F : Type 0} (R : F → L → F → Type 0) (first : Listening L) (behind all : List (Listening L)) (f g last : F)
    → all ≡ first ∷ behind → R f first.listener g → FoldsTo R g (map (λ l. l.listener) behind) last → FoldsTo R f (map (λ l. l.listener) all) last
visited_first {L} R first behind all f g last e visited more =
    let P : List (Listening L) → Type 0 = λ l. FoldsTo R f (map (λ l. l.listener) l) last in
    subst P (sym e) (g, visited, more)

-- none is left to visit
pub visited_none : {L F : Type 0} (R : F → L → F → Type 0) (rest : List (Listening L)) (f : F) → length rest ≡ 0 → FoldsTo R f (map (λ l. l.listener) rest) f
visited_none R [] f e = refl
visited_none R (first ∷ rest) f e = absurd (omega (arith, e))

-- what is done with some and then with others is done with all
pub folds_append : {X F : Type 0} (R : F → X → F → Type 0) (xs ys : List X) (f g last : F) → FoldsTo R f xs g → FoldsTo R g ys last → FoldsTo R f (xs ++ ys) last
folds_append {X} {F} R [] ys f g last h more =
    let P : F → Type 0 = λ p. FoldsTo R p ys last in
    subst P (sym h) more
folds_append R (x ∷ xs) ys f g last h more = (h.0, h.1, folds_append R xs ys h.0 g last h.2 more)

-- a list, parted at one of its places
pub split_at : {X : Type 0} (xs : List X) (k : ℕ) → k < length xs
    → (x : X) × (take (suc k) xs ≡ take k xs ++ x ∷ []) × (drop k xs ≡ x ∷ drop (suc k) xs)
split_at [] k h = absurd (omega (arith, h))
split_at (x ∷ xs) zero h = (x, refl, refl)
split_at (x ∷ xs) (suc k) h =
    let r = split_at xs k (omega (arith, h)) in
    (r.0, ap (λ l. x ∷ l) r.1, r.2)

pub all_taken : {X : Type 0} (xs : List X) → take (length xs) xs ≡ xs
all_taken [] = refl
all_taken (x ∷ xs) = ap (λ l. x ∷ l) (all_taken xs)

pub none_left : {X : Type 0} (xs : List X) → drop (length xs) xs ≡ []
none_left [] = refl
none_left (x ∷ xs) = none_left xs

pub kept_append : {L : Type 0} (chosen : Chosen) (xs ys : List (Listening L)) → kept chosen (xs ++ ys) ≡ kept chosen xs ++ kept chosen ys
kept_append chosen xs ys = filter-append (λ l. not (is_chosen chosen l.conference)) xs ys

pub given_append : {L : Type 0} (chosen : Chosen) (xs ys : List (Listening L)) → given chosen (xs ++ ys) ≡ given chosen xs ++ given chosen ys
given_append chosen xs ys =
    ap (λ l. map (λ l. l.listener) l) (filter-append (λ l. is_chosen chosen l.conference) xs ys) ∙ map-append (λ l. l.listener) _ _

reverse_one : {L : Type 0} (b : Bool) (x : Listening L) → reverse (map (λ l. l.listener) (cond b (x ∷ []) [])) ≡ map (λ l. l.listener) (cond b (x ∷ []) [])
reverse_one true x = refl
reverse_one false x = refl

-- the port at the end is handed out first
pub given_last : {L : Type 0} (chosen : Chosen) (x : Listening L) (front all : List (Listening L)) → all ≡ front ++ x ∷ []
    → reverse (given chosen all) ≡ given chosen (x ∷ []) ++ reverse (given chosen front)
given_last chosen x front all e =
    ap (λ l. reverse (given chosen l)) e
    ∙ ap (λ l. reverse l) (given_append chosen front (x ∷ []))
    ∙ reverse-append (given chosen front) (given chosen (x ∷ []))
    ∙ ap (λ l. l ++ reverse (given chosen front)) (reverse_one (is_chosen chosen x.conference) x)

-- one turn: the port before those that are done with is done with too
pub turn : {L F : Type 0} (R : F → L → F → Type 0) (chosen : Chosen) (old items after : List (Listening L)) (k place : ℕ) (f g : F)
    → place ≡ suc k → place ≤ length old → items ≡ take place old ++ kept chosen (drop place old)
    → ((front back : List (Listening L)) (x : Listening L) → items ≡ front ++ x ∷ back → length front ≡ k
    → FoldsTo R f (given chosen (x ∷ [])) g × (after ≡ front ++ kept chosen (x ∷ []) ++ back))
    → (after ≡ take k old ++ kept chosen (drop k old))
    × ((last : F) → FoldsTo R g (reverse (given chosen (take k old))) last → FoldsTo R f (reverse (given chosen (take place old))) last)
turn {L} {F} R chosen old items after k place f g e h i took =
    let parted = split_at old k (omega (arith, e, h)) in
    let x = parted.0 in
    let back = kept chosen (drop (suc k) old) in
    let at : items ≡ take k old ++ x ∷ back =
    i ∙ ap (λ p. take p old ++ kept chosen (drop p old)) e ∙ ap (λ l. l ++ back) parted.1 ∙ append_assoc (take k old) (x ∷ []) back in
    let did = took (take k old) back x at (length-take-le k old (omega (arith, e, h))) in
    let rest : kept chosen (drop k old) ≡ kept chosen (x ∷ []) ++ back =
    ap (λ l. kept chosen l) parted.2 ∙ kept_append chosen (x ∷ []) (drop (suc k) old) in
    let order : reverse (given chosen (take place old)) ≡ given chosen (x ∷ []) ++ reverse (given chosen (take k old)) =
    given_last chosen x (take k old) (take place old) (ap (λ p. take p old) e ∙ parted.1) in (
      did.1 ∙ append_assoc (take k old) (kept chosen (x ∷ [])) back ∙ ap (λ l. take k old ++ l) (sym rest),
      λ last more.
          let P : List L → Type 0 = λ l. FoldsTo R f l last in
          subst P (sym order) (folds_append R (given chosen (x ∷ [])) (reverse (given chosen (take k old))) f g last did.0 more),
    )

-- at the end all are done with
pub handed_out : {L F : Type 0} (R : F → L → F → Type 0) (chosen : Chosen) (old : List (Listening L)) (place : ℕ) (f g : F) → place ≡ 0
    → ((last : F) → FoldsTo R g (reverse (given chosen (take place old))) last → FoldsTo R f (reverse (given chosen old)) last)
    → FoldsTo R f (reverse (given chosen old)) g
handed_out R chosen old place f g e done = done g (rw e refl)
