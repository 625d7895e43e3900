-- The bytes of attributes that are put one by one, with M clear.
use Rattle.std.proofs.Common.{◌≡◌, ℕ, ◌+◌, ◌-◌, ◌*◌, ◌%◌, Bool, true, false, cond, List, [], ◌∷◌, ◌++◌, length, refl, sym, ◌∙◌, ap, arith, append_assoc, length-append}
use Rattle.std.proofs.lemmas.List.{append-nil, length-replicate}
use Rattle.std.proofs.Math.ListN.{set, replicate}
use Rattle.std.proofs.Math.Seq.{set-append_seam}
use Rattle.std.specs.Int.{w16, to_be_bytes}
use Rattle.floor_wire.specs.Attributes.{num, pair, group, octets, Attributes, no_attributes, attribute}
use Rattle.floor_wire.specs.Spelling.{canon, content_canon, first_byte, is_known, written, zeros_after}

clear : (b : Bool) → cond b false false ≡ false
clear true = refl
clear false = refl

plain_byte : (kind : ℕ) → first_byte kind (cond (is_known kind) false false) ≡ 2 * kind
plain_byte kind = ap (λ m. first_byte kind m) (clear (is_known kind)) ∙ (let e : first_byte kind false ≡ 2 * kind = omega arith in e)

-- an attribute with M clear and these contents
written_plain : (kind : ℕ) (contents : List ℕ)
    → written kind false contents ++ [] ≡ 2 * kind ∷ (2 + length contents) ∷ (contents ++ zeros_after (length contents))
written_plain kind contents =
    append-nil (written kind false contents)
    ∙ ap (λ b. b ∷ (2 + length contents) ∷ (contents ++ zeros_after (length contents))) (plain_byte kind)

pub canon_number : (kind n : ℕ) → canon (attribute kind false (num n) no_attributes) ≡ 2 * kind ∷ 4 ∷ to_be_bytes w16 n
canon_number kind n = written_plain kind (to_be_bytes w16 n)

pub canon_pair : (kind a b : ℕ) → canon (attribute kind false (pair a b) no_attributes) ≡ 2 * kind ∷ 4 ∷ a ∷ b ∷ []
canon_pair kind a b = written_plain kind (a ∷ b ∷ [])

pub canon_octets : (kind : ℕ) (os : List ℕ)
    → canon (attribute kind false (octets os) no_attributes) ≡ 2 * kind ∷ (2 + length os) ∷ (os ++ zeros_after (length os))
canon_octets kind os = written_plain kind os

pub canon_empty : (kind n : ℕ) → canon (attribute kind false (group n no_attributes) no_attributes) ≡ 2 * kind ∷ 4 ∷ to_be_bytes w16 n
canon_empty kind n = written_plain kind (to_be_bytes w16 n)

-- attributes take a multiple of 4 bytes
pub canon_aligned : (a : Attributes) → length (canon a) % 4 ≡ 0
canon_aligned no_attributes = refl
canon_aligned (attribute kind must c rest) =
    let len = length (content_canon c) in
    omega (arith, length-append (written kind must (content_canon c)) (canon rest), length-append (content_canon c) (zeros_after len), length-replicate {A = ℕ} ((4 - (2 + len) % 4) % 4) 0, canon_aligned rest)

no_zeros : (n : ℕ) → n % 4 ≡ 2 → zeros_after n ≡ []
no_zeros n h = let e : (4 - (2 + n) % 4) % 4 ≡ 0 = omega arith in ap (λ k. replicate k 0) e

pub canon_group : (kind n : ℕ) (inside : Attributes)
    → canon (attribute kind false (group n inside) no_attributes) ≡ 2 * kind ∷ (4 + length (canon inside)) ∷ (to_be_bytes w16 n ++ canon inside)
canon_group kind n inside =
    let contents = to_be_bytes w16 n ++ canon inside in
    let size : length contents ≡ 2 + length (canon inside) = length-append (to_be_bytes w16 n) (canon inside) in
    written_plain kind contents
    ∙ ap (λ z. 2 * kind ∷ (2 + length contents) ∷ (contents ++ z)) (no_zeros (length contents) (omega (arith, size, canon_aligned inside)))
    ∙ ap (λ z. 2 * kind ∷ (2 + length contents) ∷ z) (append-nil contents)
    ∙ ap (λ k. 2 * kind ∷ k ∷ contents) (omega (arith, size))

-- a group whose Length is set to all that stands behind its start
pub end_group_is : (before : List ℕ) (kind n : ℕ) (inside : Attributes) (old new : List ℕ) (start len : ℕ)
    → start ≡ length before
    → old ≡ before ++ canon (attribute kind false (group n no_attributes) no_attributes) ++ canon inside
    → len ≡ length old - start
    → new ≡ set old (start + 1) len
    → new ≡ before ++ canon (attribute kind false (group n inside) no_attributes)
end_group_is before kind n inside old new start len at all size set_is =
    let contents = to_be_bytes w16 n ++ canon inside in
    let head = before ++ 2 * kind ∷ [] in
    let whole : old ≡ head ++ 4 ∷ contents
    = all ∙ ap (λ x. (before ++ x) ++ canon inside) (canon_empty kind n) ∙ append_assoc before (2 * kind ∷ 4 ∷ to_be_bytes w16 n) (canon inside)
    ∙ sym (append_assoc before (2 * kind ∷ []) (4 ∷ contents)) in
    let heads : length head ≡ length before + 1 = length-append before (2 * kind ∷ []) in
    let inner : length contents ≡ 2 + length (canon inside) = length-append (to_be_bytes w16 n) (canon inside) in
    let sizes : length old ≡ length before + 4 + length (canon inside)
    = omega (arith, ap length whole, length-append head (4 ∷ contents), heads, inner) in
    let len_is : len ≡ 4 + length (canon inside) = omega (arith, size, sizes, at) in
    let place : start + 1 ≡ length head = omega (arith, at, heads) in
    set_is ∙ ap (λ k. set old k len) place ∙ ap (λ x. set x (length head) len) whole ∙ set-append_seam head 4 contents len
    ∙ ap (λ k. head ++ k ∷ contents) len_is ∙ append_assoc before (2 * kind ∷ []) ((4 + length (canon inside)) ∷ contents)
    ∙ ap (λ x. before ++ x) (sym (canon_group kind n inside))
