-- Lines that are put one behind the other.
use Rattle.std.proofs.Common.{◌≡◌, ◌≤◌, ◌<◌, ◌+◌, ◌-◌, ◌++◌, ℕ, List, [], ◌∷◌, length, take, drop, refl, sym, ap, ap₂, ◌∙◌, append_assoc, add-zero, length-append, length-drop, length-take-le, drop-drop, take-add, take-take, arith}
use Rattle.std.proofs.lemmas.List.{drop-take}
use Rattle.floor_machine.specs.declared.event.Event.{Event}
use Rattle.floor_room.specs.Text.{line, lines}
use Rattle.floor_ffi.specs.steps.Lines.{IsLine, PutsSome}
use Rattle.floor_ffi.specs.declared.reading.Line.TheVariants.{Put}
use Rattle.floor_ffi.proofs.Putting.{put-behind}

lines-append : (place : ℕ) (es fs : List Event) → lines place (es ++ fs) ≡ lines place es ++ lines (place + length es) fs
lines-append place [] fs = ap (λ (p : ℕ). lines p fs) (sym (add-zero place))
lines-append place (e ∷ es) fs =
    ap (λ (ls : List ℕ). line place e ++ ls) (lines-append (place + 1) es fs)
    ∙ (ap (λ (p : ℕ). line place e ++ (lines (place + 1) es ++ lines p fs)) (omega arith) ∙ sym (append_assoc (line place e) (lines (place + 1) es) (lines (place + length (e ∷ es)) fs)))

-- the lines of one event more
lines-more : (journal : List Event) (done added : ℕ) → done + added < length journal →
    lines (done + 1) (take (added + 1) (drop done journal)) ≡ lines (done + 1) (take added (drop done journal)) ++ lines (done + added + 1) (take 1 (drop (done + added) journal))
lines-more journal done added within =
    let rest : List Event = drop done journal in
    let many : length (take added rest) ≡ added = length-take-le added rest (omega (arith, length-drop done journal)) in
    ap (lines (done + 1)) (take-add added 1 rest)
    ∙ lines-append (done + 1) (take added rest) (take 1 (drop added rest))
    ∙ ap₂ (λ (p : ℕ) (es : List Event). lines (done + 1) (take added rest) ++ lines p (take 1 es)) (omega (arith, many)) (drop-drop added done journal)

-- the line of the event behind the first ones, of a journal that ends with it
pub one-line : (journal : List Event) (done added : ℕ) → done < length journal → 1 ≤ added → added ≤ length (take (done + 1) journal) - done →
    lines (done + 1) (take added (drop done (take (done + 1) journal))) ≡ lines (done + 1) (take 1 (drop done journal))
one-line journal done added within one most =
    let few : added ≡ 1 = omega (arith, length-take-le (done + 1) journal (omega arith)) in
    ap (lines (done + 1)) (ap₂ (λ (k : ℕ) (es : List Event). take k es) few (drop-take done 1 journal) ∙ take-take 1 1 (drop done journal) (omega arith))

pub puts-none : (journal : List Event) (done size : ℕ) (room : List ℕ) → PutsSome journal done 0 0 size room
puts-none journal done size room = record { counted = refl; within = omega arith; bytes = refl }

-- one more line lies behind the others
pub puts-more : (journal : List Event) (done added len size more : ℕ) (room front rest after : List ℕ) → PutsSome journal done added len size room → done + added < length journal →
    length front ≡ len → front ≡ take len room → length rest + len ≡ size → IsLine (lines (done + added + 1) (take 1 (drop (done + added) journal))) (length rest) after (Put more) →
    PutsSome journal done (added + 1) (len + more) size (front ++ after)
puts-more journal done added len size more room front rest after some within is-len is-front is-size put =
    let next : List ℕ = lines (done + added + 1) (take 1 (drop (done + added) journal)) in
    let all = lines-more journal done added within in record {
      counted = omega (arith, some.counted, put.0, ap length all, length-append (lines (done + 1) (take added (drop done journal))) next);
      within = omega (arith, put.1, is-size);
      bytes = put-behind front after (lines (done + 1) (take added (drop done journal))) next len more is-len (is-front ∙ some.bytes) put.2 ∙ sym all;
    }

-- what adding lines to an empty text gives, of a journal that ends with this event
pub put-line : (journal : List Event) (done added : ℕ) (line new old : List ℕ) → line ≡ new → old ≡ [] → new ≡ old ++ lines (done + 1) (take added (drop done (take (done + 1) journal))) →
    done < length journal → (done < length (take (done + 1) journal) → 1 ≤ added) → added ≤ length (take (done + 1) journal) - done → line ≡ lines (done + 1) (take 1 (drop done journal))
put-line journal done added line new old is empty adds within one most =
    is ∙ adds ∙ ap (λ (bs : List ℕ). bs ++ lines (done + 1) (take added (drop done (take (done + 1) journal)))) empty
    ∙ one-line journal done added within (one (omega (arith, length-take-le (done + 1) journal (omega (arith, within))))) most
