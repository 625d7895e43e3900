-- The lines of a place, put one after another.
use Rattle.std.proofs.Common.{◌≡◌, ℕ, Bool, true, false, cond, List, [], ◌∷◌, ◌++◌, map, refl, sym, ap, ◌∙◌, append_assoc}
use Rattle.std.specs.Prelude.{not, codes, Result, Ok, Err, OnOk}
use Rattle.std.specs.List.{flat_map}
use Rattle.std.proofs.lemmas.Grind.{flat_map-append}
use Rattle.floor_message.specs.declared.information.Info.{Info}
use Rattle.floor_machine.specs.Conference.{Conference}
use Rattle.floor_machine.specs.Next.{is_nothing}
use Rattle.floor_control.specs.Watch.{cut_line, cut_text, line, lines, request_line, request_text}

flat_map-map : {A B C : Type 0} (f : B → List C) (g : A → B) (xs : List A) → flat_map f (map g xs) ≡ flat_map (λ x. f (g x)) xs
flat_map-map f g [] = refl
flat_map-map {C = C} f g (x ∷ xs) = ap (λ (zs : List C). f (g x) ++ zs) (flat_map-map f g xs)

-- the lines of what is shown, by its parts
pub parts : (c p : ℕ) (own : List (List ℕ)) (changed : List Info) (s : Conference) (cut : List ℕ) →
    flat_map (line c p) (own ++ map request_text changed ++ map (cut_text s) cut)
    ≡ flat_map (line c p) own ++ flat_map (request_line c p) changed ++ flat_map (cut_line c p s) cut
parts c p own changed s cut =
    flat_map-append (line c p) (own ++ map request_text changed) (map (cut_text s) cut)
    ∙ ap (λ (xs : List ℕ). xs ++ flat_map (line c p) (map (cut_text s) cut))
    (flat_map-append (line c p) own (map request_text changed) ∙ ap (λ (xs : List ℕ). flat_map (line c p) own ++ xs) (flat_map-map (line c p) request_text changed))
    ∙ ap (λ (xs : List ℕ). (flat_map (line c p) own ++ flat_map (request_line c p) changed) ++ xs) (flat_map-map (line c p) (cut_text s) cut)

-- what was put, one after another
pub put-all : (c p : ℕ) (own : List (List ℕ)) (changed : List Info) (s : Conference) (cut : List ℕ) (old first second third last : List ℕ) (is : Bool) →
    first ≡ old ++ flat_map (line c p) own → second ≡ first ++ flat_map (request_line c p) changed → third ≡ second ++ flat_map (cut_line c p s) cut →
    is ≡ not (is_nothing (own ++ map request_text changed ++ map (cut_text s) cut)) → last ≡ third ++ cond is (line c p (codes ".")) [] →
    last ≡ old ++ lines c p (own ++ map request_text changed ++ map (cut_text s) cut)
put-all c p own changed s cut old first second third last is a b d e f =
    let all : List (List ℕ) = own ++ map request_text changed ++ map (cut_text s) cut in
    let o : List ℕ = flat_map (line c p) own in
    let r : List ℕ = flat_map (request_line c p) changed in
    let k : List ℕ = flat_map (cut_line c p s) cut in
    let ending : List ℕ = cond (is_nothing all) [] (line c p (codes ".")) in
    f
    ∙ ap (λ (x : List ℕ). x ++ cond is (line c p (codes ".")) []) (d ∙ ap (λ (x : List ℕ). x ++ k) (b ∙ ap (λ (x : List ℕ). x ++ r) a))
    ∙ ap (λ (x : Bool). (((old ++ o) ++ r) ++ k) ++ cond x (line c p (codes ".")) []) e
    ∙ ap (λ (x : List ℕ). (((old ++ o) ++ r) ++ k) ++ x) (turned (is_nothing all))
    ∙ ap (λ (x : List ℕ). (x ++ k) ++ ending) (append_assoc old o r)
    ∙ ap (λ (x : List ℕ). x ++ ending) (append_assoc old (o ++ r) k)
    ∙ append_assoc old ((o ++ r) ++ k) ending
    ∙ ap (λ (x : List ℕ). old ++ (x ++ ending)) (sym (parts c p own changed s cut))
  where
    turned : (b : Bool) → cond (not b) (line c p (codes ".")) [] ≡ cond b [] (line c p (codes "."))
    turned true = refl
    turned false = refl

-- there is something where one part has something
pub any-own : (own : List (List ℕ)) (rest : List (List ℕ)) → not (is_nothing own) ≡ true → true ≡ not (is_nothing (own ++ rest))
any-own [] rest h = absurd cc
any-own (x ∷ own) rest h = refl

pub any-rest : (own : List (List ℕ)) (rest : List (List ℕ)) → not (is_nothing own) ≡ false → not (is_nothing (own ++ rest)) ≡ not (is_nothing rest)
any-rest [] rest h = refl
any-rest (x ∷ own) rest h = absurd cc

pub any-mapped : {A : Type 0} (f : A → List ℕ) (xs : List A) → is_nothing (map f xs) ≡ is_nothing xs
any-mapped f [] = refl
any-mapped f (x ∷ xs) = refl

-- what follows where a call succeeded
pub on-ok : {T E A B : Type 0} (r : Result T E) → (A → B) → OnOk r A → OnOk r B
on-ok (Ok x) f h = f h
on-ok (Err e) f h = tt
