-- The text of a journal, piece by piece.
use Rattle.std.proofs.Common.{◌≡◌, ℕ, zero, suc, ◌+◌, ◌-◌, ◌<◌, ◌≤◌, Bool, true, false, List, [], ◌∷◌, ◌++◌, length, take, drop, refl, sym, ap, ◌∙◌, arith, append_assoc, length-append, length-drop, length-take}
use Rattle.std.specs.Prelude.{nat_le, slice_get}
use Rattle.std.proofs.lemmas.Bool.Decides.{nat_tests}
use Rattle.floor_machine.specs.declared.event.Event.{Event}
use Rattle.floor_room.specs.Text.{end_line, line, lines}
use Rattle.floor_serve.specs.Held.{IsFound, IsText}
use Rattle.floor_serve.specs.steps.Pieces.{IsPiece}
use Rattle.floor_serve.proofs.Ordered.{drop-get, take-get}

below : (a b : ℕ) → nat_le a b ≡ true → a ≤ b
below a b e = grind (arith, nat_tests)

above : (a b : ℕ) → nat_le a b ≡ false → b < a
above a b e = grind (arith, nat_tests)

-- the lines of some events, and of those behind them
lines-append : (place : ℕ) (xs ys : List Event) → lines place (xs ++ ys) ≡ lines place xs ++ lines (place + length xs) ys
lines-append place [] ys = ap (λ (k : ℕ). lines k ys) (omega arith)
lines-append place (x ∷ xs) ys =
    ap (λ (bs : List ℕ). line place x ++ bs) (lines-append (place + 1) xs ys ∙ ap (λ (k : ℕ). lines (place + 1) xs ++ lines k ys) (omega arith))
    ∙ sym (append_assoc (line place x) (lines (place + 1) xs) (lines (place + length (x ∷ xs)) ys))

front-get : (xs ys : List Event) (k : ℕ) → k < length xs → slice_get (xs ++ ys) k ≡ slice_get xs k
front-get [] ys k h = absurd (omega arith)
front-get (x ∷ xs) ys zero h = refl
front-get (x ∷ xs) ys (suc k) h = front-get xs ys k (omega arith)

back-get : (xs ys : List Event) (k : ℕ) → slice_get (xs ++ ys) (length xs + k) ≡ slice_get ys k
back-get [] ys k = ap (λ (i : ℕ). slice_get ys i) (omega arith)
back-get (x ∷ xs) ys k = ap (λ (i : ℕ). slice_get (x ∷ (xs ++ ys)) i) (more (length xs) k) ∙ back-get xs ys k
  where
    more : (a b : ℕ) → suc a + b ≡ suc (a + b)
    more a b = omega arith

-- The text has the lines of so many events, each of which stood at its place of the journal.
pub record IsBegun (text : List ℕ) (done : ℕ) : Type 0 where
  pub events : List Event
  pub count : length events ≡ done
  pub text_is : text ≡ lines 1 events
  pub stood : (k : ℕ) → k < length events → IsFound (λ b. slice_get b.ledger.journal k ≡ slice_get events k)

pub begun-none : (text : List ℕ) → text ≡ [] → IsBegun text 0
begun-none text e = record { events = []; count = refl; text_is = e; stood = λ k l. absurd (omega arith) }

-- one piece more
pub begun-more : (old new : List ℕ) (done added next : ℕ) → IsBegun old done → IsPiece old new done added → next ≡ done + added → IsBegun new next
begun-more old new done added next h p e =
    record {
      events = h.events ++ piece;
      count = length-append h.events piece ∙ omega (arith, h.count, many, e);
      text_is =
          p.text
          ∙ ap (λ (bs : List ℕ). bs ++ lines (done + 1) piece) h.text_is
          ∙ ap (λ (k : ℕ). lines 1 h.events ++ lines k piece) (omega (arith, h.count))
          ∙ sym (lines-append 1 h.events piece);
      stood = λ k l. by k (nat_le (length h.events) k) refl l;
    }
  where
    journal : List Event
    journal = p.booth.ledger.journal

    piece : List Event
    piece = take added (drop done journal)

    many : length piece ≡ added
    many = omega (arith, length-take added (drop done journal), length-drop done journal, p.within)

    by : (k : ℕ) (t : Bool) → nat_le (length h.events) k ≡ t → k < length (h.events ++ piece) → IsFound (λ b. slice_get b.ledger.journal k ≡ slice_get (h.events ++ piece) k)
    by k false f l =
        let front : k < length h.events = above (length h.events) k f in
        let was = h.stood k front in (was.0, was.1, was.2 ∙ sym (front-get h.events piece k front))
    by k true f l =
        let behind : length h.events ≤ k = below (length h.events) k f in
        let at : length h.events + (k - length h.events) ≡ k = omega arith in
        let few : k - length h.events < added = omega (arith, l, length-append h.events piece, many, behind) in
        let from : done + (k - length h.events) ≡ k = omega (arith, h.count, behind) in (
          p.booth,
          p.kept,
          sym
              (ap (λ (i : ℕ). slice_get (h.events ++ piece) i) (sym at)
              ∙ back-get h.events piece (k - length h.events)
              ∙ take-get (drop done journal) added (k - length h.events) few
              ∙ drop-get journal done (k - length h.events)
              ∙ ap (λ (i : ℕ). slice_get journal i) from),
        )

-- the last line
pub text-ended : (text new : List ℕ) (done : ℕ) → IsBegun text done → new ≡ text ++ end_line done → IsText new
text-ended text new done h e =
    record {
      events = h.events;
      text_is =
          e
          ∙ ap (λ (bs : List ℕ). bs ++ end_line done) h.text_is
          ∙ ap (λ (k : ℕ). lines 1 h.events ++ end_line k) (sym h.count);
      stood = h.stood;
    }

-- a piece is no longer than a journal
pub piece-few : (old new : List ℕ) (done added : ℕ) → IsPiece old new done added → added ≤ 2000000
piece-few old new done added p = omega (arith, p.within, p.kept.journal.count)
