-- What is in the buffer after an attribute or a message is written into it.
use Rattle.std.proofs.Common.{◌≡◌, ℕ, ◌+◌, ◌-◌, ◌*◌, ◌/◌, ◌%◌, ◌≤◌, List, [], ◌∷◌, ◌++◌, length, ◌∙◌, ap, arith, append_assoc, length-append}
use Rattle.floor_wire.specs.Message.{IsMessage}
use Rattle.floor_wire.specs.Spelling.{zeros_after}
use Rattle.floor_wire.specs.Header.{header_bytes}
use Rattle.std.proofs.Math.ListN.{set}
use Rattle.std.proofs.Math.Seq.{set-append_seam}

-- an attribute with its Length set, behind what was written before it
pub put_attribute_is : (before with_head with_zero with_contents with_length all contents padding : List ℕ) (first start len : ℕ)
    → start ≡ length before
    → with_head ≡ before ++ first ∷ []
    → with_zero ≡ with_head ++ 0 ∷ []
    → with_contents ≡ with_zero ++ contents
    → len ≡ length with_contents - start
    → with_length ≡ set with_contents (start + 1) len
    → all ≡ with_length ++ padding
    → padding ≡ zeros_after (len - 2)
    → all ≡ before ++ (first ∷ (2 + length contents) ∷ (contents ++ zeros_after (length contents)))
put_attribute_is before with_head with_zero with_contents with_length all contents padding first start len at head zero whole size set_is end zeros =
    let items : with_contents ≡ with_head ++ 0 ∷ contents = whole ∙ ap (λ x. x ++ contents) zero ∙ append_assoc with_head (0 ∷ []) contents in
    let heads : length with_head ≡ length before + 1 = ap length head ∙ length-append before (first ∷ []) in
    let place : start + 1 ≡ length with_head = omega (arith, at, heads) in
    let sizes : length with_contents ≡ length before + 2 + length contents
    = omega (arith, ap length items, length-append with_head (0 ∷ contents), heads) in
    let length_is : len ≡ 2 + length contents = omega (arith, size, sizes, at) in
    let zeros_is : padding ≡ zeros_after (length contents) = zeros ∙ ap zeros_after (omega (arith, length_is)) in
    end ∙ ap (λ x. with_length ++ x) zeros_is
    ∙ ap (λ x. x ++ zeros_after (length contents)) (set_is ∙ ap (λ n. set with_contents n len) place ∙ ap (λ x. set x (length with_head) len) items
    ∙ set-append_seam with_head 0 contents len ∙ ap (λ n. with_head ++ n ∷ contents) length_is ∙ ap (λ x. x ++ (2 + length contents) ∷ contents) head
    ∙ append_assoc before (first ∷ []) ((2 + length contents) ∷ contents))
    ∙ append_assoc before (first ∷ (2 + length contents) ∷ contents) (zeros_after (length contents))

-- a header with the Payload Length of what follows it, and that
pub IsMessage-header_bytes : (primitive conference transaction user : ℕ) (payload : List ℕ) → length payload % 4 ≡ 0 → length payload ≤ 4 * 65535
    → IsMessage (header_bytes primitive (length payload / 4) conference transaction user ++ payload)
IsMessage-header_bytes primitive conference transaction user payload aligned fits = omega arith
