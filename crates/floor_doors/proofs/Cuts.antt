-- Pieces are answered as all their bytes at once.
use Rattle.std.proofs.Common.{◌≡◌, ℕ, zero, suc, ◌-◌, ◌≤◌, List, [], ◌∷◌, ◌++◌, length, drop, Ok, Err, refl, sym, ap, ◌∙◌, arith, append_assoc, subst}
use Rattle.std.proofs.lemmas.List.{drop-append-le}
use Rattle.floor_proxy.specs.declared.header.NamedBy.{NamedBy}
use Rattle.floor_proxy.specs.declared.header.ProxyRead.TheVariants.{More, Local, Named}
use Rattle.floor_proxy.specs.Header.{proxy}
use Rattle.floor_proxy.proofs.Cuts.{answers_stay, within}
use Rattle.floor_doors.specs.Laws.{CutsChangeNothing, Heard, at_once, at_piece, heard, whole}
use Rattle.floor_doors.proofs.Behind.{Answer, Fits, ends_behind}

append_none : (xs : List ℕ) → xs ++ [] ≡ xs
append_none [] = refl
append_none (x ∷ xs) = ap (λ l. x ∷ l) (append_none xs)

-- what stands behind the first n bytes of two pieces, of which the first is shorter
drop_first : (n : ℕ) (held piece : List ℕ) → length held ≤ n → drop n (held ++ piece) ≡ drop (n - length held) piece
drop_first n [] piece h = let e : n ≡ n - 0 = omega arith in ap (λ (k : ℕ). drop k piece) e
drop_first n (x ∷ held) piece h = by n h (λ m g. drop_first m held piece g)
  where
    by : (n : ℕ) → length (x ∷ held) ≤ n → ((m : ℕ) → length held ≤ m → drop m (held ++ piece) ≡ drop (m - length held) piece)
        → drop n ((x ∷ held) ++ piece) ≡ drop (n - length (x ∷ held)) piece
    by zero h rec = absurd (omega (arith, h))
    by (suc m) h rec = rec m (omega (arith, h)) ∙ ap (λ (k : ℕ). drop k piece) (omega (arith, h))

-- one piece, and what is answered of those behind it
piece_is : (by : NamedBy) (held piece behind : List ℕ) (later : Heard) (answer : Answer) → answer ≡ proxy by (held ++ piece) → proxy by held ≡ Ok More
    → (proxy by (held ++ piece) ≡ Ok More → later ≡ at_once (proxy by ((held ++ piece) ++ behind)) ((held ++ piece) ++ behind))
    → at_piece answer (length held) piece behind later ≡ at_once (proxy by ((held ++ piece) ++ behind)) ((held ++ piece) ++ behind)
piece_is by held piece behind later (Ok More) is front rec = rec (sym is)
piece_is by held piece behind later (Ok Local) is front rec =
    let stays = answers_stay by (held ++ piece) behind (λ more. let e = is ∙ more in cc) in
    ap (λ (a : Answer). at_once a ((held ++ piece) ++ behind)) (is ∙ sym stays)
piece_is by held piece behind later (Ok (Named conference user len)) is front rec =
    let stays = answers_stay by (held ++ piece) behind (λ more. let e = is ∙ more in cc) in
    let fits : Fits (length (held ++ piece)) (Ok (Named conference user len)) =
    subst (λ (a : Answer). Fits (length (held ++ piece)) a) (sym is) (within by (held ++ piece)) in
    let some : 16 ≤ len = fits.0 in
    let there : len ≤ length (held ++ piece) = fits.2 in
    let more = ends_behind by held piece conference user len some front (sym is) in
    let rest : drop len ((held ++ piece) ++ behind) ≡ drop (len - length held) piece ++ behind =
    drop-append-le len (held ++ piece) behind there ∙ ap (λ (l : List ℕ). l ++ behind) (drop_first len held piece (omega (arith, more))) in
    let with_rest : List ℕ → Heard = λ l. record { answer = Ok (Named conference user len); rest = l } in
    ap with_rest (sym rest) ∙ ap (λ (a : Answer). at_once a ((held ++ piece) ++ behind)) (is ∙ sym stays)
piece_is by held piece behind later (Err refusal) is front rec =
    let stays = answers_stay by (held ++ piece) behind (λ more. let e = is ∙ more in cc) in
    ap (λ (a : Answer). at_once a ((held ++ piece) ++ behind)) (is ∙ sym stays)

pieces_are : (by : NamedBy) (held : List ℕ) (pieces : List (List ℕ)) → proxy by held ≡ Ok More → heard by held pieces ≡ at_once (proxy by (held ++ whole pieces)) (held ++ whole pieces)
pieces_are by held [] front = sym (ap (λ (l : List ℕ). at_once (proxy by l) l) (append_none held) ∙ ap (λ (a : Answer). at_once a held) front)
pieces_are by held (piece ∷ pieces) front =
    piece_is by held piece (whole pieces) (heard by (held ++ piece) pieces) (proxy by (held ++ piece)) refl front (λ more. pieces_are by (held ++ piece) pieces more)
    ∙ ap (λ (l : List ℕ). at_once (proxy by l) l) (append_assoc held piece (whole pieces))

pub cuts_change_nothing : CutsChangeNothing
unfolding proxy
cuts_change_nothing by pieces = pieces_are by [] pieces refl
