-- What is written one part behind another, and the lines of a journal's events.
use Rattle.std.proofs.Common.{◌≡◌, ℕ, ◌+◌, ◌-◌, ◌<◌, ◌≤◌, List, [], ◌∷◌, ◌++◌, length, take, drop, get_or, Option, refl, sym, ap, subst, ◌∙◌, arith, append_assoc, length-drop, length-take-le}
use Rattle.std.proofs.KnownBytes.{Appends-trans}
use Rattle.std.proofs.Math.Seq.{take-add, take-length}
use Rattle.std.proofs.lemmas.List.{append-nil, drop-drop, take_all, take_more}
use Rattle.std.specs.Io.KnownBytes.{Appends}
use Rattle.floor_machine.specs.declared.event.Event.{Event}
use Rattle.floor_room.specs.Text.{line, lines}
use Rattle.floor_kept.specs.Entries.{entry_line}
use Rattle.floor_kept.specs.Writing.{note_lines}
use Rattle.floor_kept.specs.declared.entry.Entry.{Entry}

-- one more write of some bytes
pub part_written : (xs : List ℕ) (at k : ℕ) (a b c : Option (List ℕ)) → at ≤ length xs → k ≤ length (take (length xs - at) (drop at xs)) → Appends a b (take at xs)
    → Appends b c (take k (take (length xs - at) (drop at xs))) → (at + k ≤ length xs) × Appends a c (take (at + k) xs)
part_written xs at k a b c within few first more =
    let rest : take (length xs - at) (drop at xs) ≡ drop at xs = ap (λ n. take n (drop at xs)) (sym (length-drop at xs)) ∙ take-length (drop at xs) in
    let Then : List ℕ → Type 0 = λ l. Appends b c (take k l) in
    let Both : List ℕ → Type 0 = λ l. Appends a c l in
    (omega (arith, ap length rest, length-drop at xs), subst Both (sym (take-add at k xs)) (Appends-trans a b c _ _ first (subst Then rest more)))

-- the lines of some events, and of those behind them
lines-append : (place : ℕ) (xs ys : List Event) → lines place (xs ++ ys) ≡ lines place xs ++ lines (place + length xs) ys
lines-append place [] ys = ap (λ (k : ℕ). lines k ys) (omega arith)
lines-append place (x ∷ xs) ys =
    ap (λ (bs : List ℕ). line place x ++ bs) (lines-append (place + 1) xs ys ∙ ap (λ (k : ℕ). lines (place + 1) xs ++ lines k ys) (omega arith))
    ∙ sym (append_assoc (line place x) (lines (place + 1) xs) (lines (place + length (x ∷ xs)) ys))

-- what is dropped first, and then more
drop_twice : (a b : ℕ) (es : List Event) → drop b (drop a es) ≡ drop (a + b) es
drop_twice a b es = drop-drop b a es

-- a piece more
pub lines_more : (es : List Event) (done at added : ℕ) (text new : List ℕ) → done ≤ at → at ≤ length es → added ≤ length es - at
    → text ≡ lines (done + 1) (take (at - done) (drop done es)) → new ≡ text ++ lines (at + 1) (take added (drop at es))
    → new ≡ lines (done + 1) (take (at + added - done) (drop done es))
lines_more es done at added text new from within few before put =
    let long : length (take (at - done) (drop done es)) ≡ at - done = length-take-le (at - done) (drop done es) (omega (arith, within, from, length-drop done es)) in
    let place : at + 1 ≡ done + 1 + length (take (at - done) (drop done es)) = omega (arith, long, from) in
    let same : drop at es ≡ drop (at - done) (drop done es) = ap (λ (n : ℕ). drop n es) (omega (arith, from)) ∙ sym (drop_twice done (at - done) es) in
    put
    ∙ ap (λ (bs : List ℕ). bs ++ lines (at + 1) (take added (drop at es))) before
    ∙ ap (λ (k : ℕ). lines (done + 1) (take (at - done) (drop done es)) ++ lines k (take added (drop at es))) place
    ∙ ap (λ (xs : List Event). lines (done + 1) (take (at - done) (drop done es)) ++ lines (done + 1 + length (take (at - done) (drop done es))) (take added xs)) same
    ∙ sym (lines-append (done + 1) (take (at - done) (drop done es)) (take added (drop (at - done) (drop done es))))
    ∙ ap (lines (done + 1)) (sym (take-add (at - done) added (drop done es)))
    ∙ ap (λ (n : ℕ). lines (done + 1) (take n (drop done es))) (omega (arith, from))

notes-append : (place : ℕ) (xs ys : List Entry) → note_lines place (xs ++ ys) ≡ note_lines place xs ++ note_lines place ys
notes-append place [] ys = refl
notes-append place (x ∷ xs) ys =
    ap (λ (l : List ℕ). entry_line place x ++ l) (notes-append place xs ys) ∙ sym (append_assoc (entry_line place x) (note_lines place xs) (note_lines place ys))

-- one note more
pub note_more : (place i : ℕ) (notes : List Entry) (note : Entry) (first text line new : List ℕ) → i < length notes → note ≡ get_or notes i note
    → text ≡ first ++ note_lines place (take i notes) → line ≡ entry_line place note → new ≡ text ++ line
    → new ≡ first ++ note_lines place (take (i + 1) notes)
note_more place i notes note first text line new within at before printed grown =
    let taken : take (i + 1) notes ≡ take i notes ++ note ∷ [] = take_more notes i note within ∙ ap (λ (x : Entry). take i notes ++ x ∷ []) (sym at) in
    grown
    ∙ ap (λ (t : List ℕ). t ++ line) before
    ∙ ap (λ (l : List ℕ). (first ++ note_lines place (take i notes)) ++ l) (printed ∙ sym (append-nil (entry_line place note)))
    ∙ append_assoc first (note_lines place (take i notes)) (note_lines place (note ∷ []))
    ∙ ap (λ (l : List ℕ). first ++ l) (sym (notes-append place (take i notes) (note ∷ [])))
    ∙ ap (λ (ns : List Entry). first ++ note_lines place ns) (sym taken)

-- all notes were written
pub notes_all : (place n : ℕ) (notes : List Entry) → length notes ≤ n → note_lines place (take n notes) ≡ note_lines place notes
notes_all place n notes h = ap (note_lines place) (take_all n notes h)
