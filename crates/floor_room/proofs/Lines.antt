-- A journal as text, piece by piece.
use Rattle.std.proofs.Common.{◌≡◌, ℕ, ◌+◌, ◌-◌, ◌<◌, List, [], ◌∷◌, ◌++◌, length, get_or, take, drop, sym, ap, ◌∙◌, arith, append_assoc, append-nil, length-drop, length-take-le, take-add}
use Rattle.std.proofs.lemmas.List.{take_more, get_or-drop}
use Rattle.floor_machine.specs.declared.event.Event.{Event}
use Rattle.floor_room.specs.Text.{line, lines}

-- the lines of some events, and of those behind them
lines-append : (place : ℕ) (xs ys : List Event) → lines place (xs ++ ys) ≡ lines place xs ++ lines (place + length xs) ys
lines-append place [] ys = ap (λ (k : ℕ). lines k ys) (omega arith)
lines-append place (x ∷ xs) ys =
    ap (λ (bs : List ℕ). line place x ++ bs) (lines-append (place + 1) xs ys ∙ ap (λ (k : ℕ). lines (place + 1) xs ++ lines k ys) (omega arith))
    ∙ sym (append_assoc (line place x) (lines (place + 1) xs) (lines (place + length (x ∷ xs)) ys))

-- the line of the next event, behind the lines of a piece
pub piece-more : (es : List Event) (done added : ℕ) (e : Event) (old text new : List ℕ) → added < length es - done → e ≡ get_or es (done + added) e
    → new ≡ text ++ line (done + added + 1) e → text ≡ old ++ lines (done + 1) (take added (drop done es)) → new ≡ old ++ lines (done + 1) (take (added + 1) (drop done es))
piece-more es done added e old text new within is put before =
    let here : added < length (drop done es) = omega (arith, within, length-drop done es) in
    let long : length (take added (drop done es)) ≡ added = length-take-le added (drop done es) (omega (arith, here)) in
    let place : done + added + 1 ≡ done + 1 + length (take added (drop done es)) = omega (arith, long) in
    let event : get_or (drop done es) added e ≡ e = get_or-drop done es added e ∙ sym is in
    let front : take (added + 1) (drop done es) ≡ take added (drop done es) ++ e ∷ [] = take_more (drop done es) added e here ∙ ap (λ (x : Event). take added (drop done es) ++ x ∷ []) event in
    put
    ∙ ap (λ (bs : List ℕ). bs ++ line (done + added + 1) e) before
    ∙ append_assoc old (lines (done + 1) (take added (drop done es))) (line (done + added + 1) e)
    ∙ ap (λ (k : ℕ). old ++ (lines (done + 1) (take added (drop done es)) ++ line k e)) place
    ∙ ap (λ (bs : List ℕ). old ++ (lines (done + 1) (take added (drop done es)) ++ bs)) (sym (append-nil (line (done + 1 + length (take added (drop done es))) e)))
    ∙ ap (λ (bs : List ℕ). old ++ bs) (sym (lines-append (done + 1) (take added (drop done es)) (e ∷ [])))
    ∙ ap (λ (xs : List Event). old ++ lines (done + 1) xs) (sym front)

-- the lines of the first events, and of a piece behind them
pub pieces : (es : List Event) (done added : ℕ) (text new : List ℕ) → done < length es → new ≡ text ++ lines (done + 1) (take added (drop done es)) → text ≡ lines 1 (take done es)
    → new ≡ lines 1 (take (done + added) es)
pieces es done added text new within put before =
    let place : done + 1 ≡ 1 + length (take done es) = omega (arith, length-take-le done es (omega (arith, within))) in
    put
    ∙ ap (λ (bs : List ℕ). bs ++ lines (done + 1) (take added (drop done es))) before
    ∙ ap (λ (k : ℕ). lines 1 (take done es) ++ lines k (take added (drop done es))) place
    ∙ sym (lines-append 1 (take done es) (take added (drop done es)))
    ∙ ap (lines 1) (sym (take-add done added es))
