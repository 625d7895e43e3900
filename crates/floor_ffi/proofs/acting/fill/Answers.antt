use Rattle.std.proofs.Common.{◌≡◌, ◌++◌, ℕ, List, length, take, drop, refl, sym, ap, ◌∙◌}
use Rattle.std.proofs.lemmas.List.{append_assoc, take-append-drop, take_at}
use Rattle.floor_ffi.proofs.acting.fill.Goals as goal

pub returns : goal.returns
returns c =
    let bs : List ℕ = c.args.reply.now in
    let rest : List ℕ = c.split_at_mut-middle.result.1.now in
    let front : List ℕ = c.copy_from_slice.new.self in
    let middle : List ℕ = c.copy_from_slice-2.new.self in
    let header : front ≡ take 12 bs = c.copy_from_slice.ensures.after ∙ c.header-header.ensures.value in
    let payload : middle ≡ drop 12 bs = c.copy_from_slice-2.ensures.after ∙ c.payload-payload.ensures.value in
    let whole : front ++ (middle ++ rest) ≡ bs ++ rest =
    ap (λ (x : List ℕ). x ++ (middle ++ rest)) header ∙ (ap (λ (x : List ℕ). take 12 bs ++ (x ++ rest)) payload
    ∙ (sym (append_assoc (take 12 bs) (drop 12 bs) rest) ∙ ap (λ (x : List ℕ). x ++ rest) (take-append-drop 12 bs))) in
    record { bytes = ap (λ (x : List ℕ). take (length bs) x) whole ∙ take_at bs rest (length bs) refl }
