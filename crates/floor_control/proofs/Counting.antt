-- What is counted of the texts that wait, as they come and go.
use Rattle.std.proofs.Common.{◌≡◌, ◌<◌, ◌≤◌, ◌+◌, ◌-◌, ◌^◌, ℕ, Bool, true, false, List, [], ◌∷◌, ◌++◌, length, drop, refl, sym, ◌∙◌, ap, arith, length-append, length-drop}
use Rattle.std.proofs.lemmas.List.Sums.{sum_by-append, sum_by-cons}
use Rattle.std.proofs.lemmas.Bool.{leb-false}
use Rattle.floor_control.specs.Outgoing.{Outgoing, Piece, answer_bytes, answers_len, first_bytes, is_full, is_live, is_over, left_of, live_bytes, live_len, put, written}
use Rattle.floor_control.specs.steps.Counted.{AreWhole, IsCounted}

answers_put_answer : (text : List ℕ) (pieces : List Piece) → answers_len (put false text pieces) ≡ answers_len pieces + length text
answers_put_answer [] pieces = omega arith
answers_put_answer (b ∷ text) pieces =
    let piece : Piece = record { is_live = false; bytes = b ∷ text } in
    sum_by-append answer_bytes pieces (piece ∷ []) ∙ omega arith

live_put_answer : (text : List ℕ) (pieces : List Piece) → live_len (put false text pieces) ≡ live_len pieces
live_put_answer [] pieces = refl
live_put_answer (b ∷ text) pieces =
    let piece : Piece = record { is_live = false; bytes = b ∷ text } in
    sum_by-append live_bytes pieces (piece ∷ []) ∙ omega arith

answers_put_live : (text : List ℕ) (pieces : List Piece) → answers_len (put true text pieces) ≡ answers_len pieces
answers_put_live [] pieces = refl
answers_put_live (b ∷ text) pieces =
    let piece : Piece = record { is_live = true; bytes = b ∷ text } in
    sum_by-append answer_bytes pieces (piece ∷ []) ∙ omega arith

live_put_live : (text : List ℕ) (pieces : List Piece) → live_len (put true text pieces) ≡ live_len pieces + length text
live_put_live [] pieces = omega arith
live_put_live (b ∷ text) pieces =
    let piece : Piece = record { is_live = true; bytes = b ∷ text } in
    sum_by-append live_bytes pieces (piece ∷ []) ∙ omega arith

whole_behind : (pieces : List Piece) (piece : Piece) → AreWhole pieces → 0 < length piece.bytes → AreWhole (pieces ++ piece ∷ [])
whole_behind [] piece h some = (some, tt)
whole_behind (p ∷ pieces) piece (first, rest) some = (first, whole_behind pieces piece rest some)

whole_put : (is_live : Bool) (text : List ℕ) (pieces : List Piece) → AreWhole pieces → AreWhole (put is_live text pieces)
whole_put is_live [] pieces h = h
whole_put is_live (b ∷ text) pieces h = whole_behind pieces (record { is_live = is_live; bytes = b ∷ text }) h (omega arith)

-- a text of an answer comes
pub counted_answer : (pieces after : List Piece) (answers live : ℕ) (held text : List ℕ) → IsCounted pieces answers live held
    → after ≡ put false text pieces → answers < 262144 → length text < 2 ^ 63
    → IsCounted after (answers + length text) live held
counted_answer pieces after answers live held text h e few short =
    let e1 = answers_put_answer text pieces in
    let e2 = live_put_answer text pieces in
    rw e record {
      answers_count = omega (arith, e1, h.answers_count);
      live_count = h.live_count ∙ omega (arith, e2);
      answers_fit = omega (arith, few, short);
      live_fits = h.live_fits;
      whole = whole_put false text pieces h.whole;
    }

-- a live text comes
pub counted_live : (pieces after : List Piece) (answers live : ℕ) (held text : List ℕ) → IsCounted pieces answers live held
    → after ≡ put true text pieces → live + length held < 1048576 → length text < 2 ^ 63
    → IsCounted after answers (live + length text) held
counted_live pieces after answers live held text h e few short =
    let e1 = answers_put_live text pieces in
    let e2 = live_put_live text pieces in
    rw e record {
      answers_count = h.answers_count ∙ omega (arith, e1);
      live_count = omega (arith, e2, h.live_count);
      answers_fit = h.answers_fit;
      live_fits = omega (arith, few, short);
      whole = whole_put true text pieces h.whole;
    }

-- an answer ends, and what was held back goes
pub counted_end : (pieces after : List Piece) (answers live : ℕ) (held text rest : List ℕ) → IsCounted pieces answers live held
    → text ≡ held → after ≡ put true text pieces → rest ≡ [] → IsCounted after answers (live + length text) rest
counted_end pieces after answers live held text rest h same e none =
    let e1 = answers_put_live text pieces in
    let e2 = live_put_live text pieces in
    let e3 : length rest ≡ 0 = ap length none in
    let e4 : length text ≡ length held = ap length same in
    rw e record {
      answers_count = h.answers_count ∙ omega (arith, e1);
      live_count = omega (arith, e2, h.live_count);
      answers_fit = h.answers_fit;
      live_fits = omega (arith, h.live_fits, e3, e4);
      whole = whole_put true text pieces h.whole;
    }

-- a live text is held back
pub counted_held : (pieces : List Piece) (answers live : ℕ) (held after text : List ℕ) → IsCounted pieces answers live held
    → after ≡ held ++ text → live + length held < 1048576 → length text < 2 ^ 63
    → IsCounted pieces answers live after
counted_held pieces answers live held after text h e few short =
    let long : length after ≡ length held + length text = ap length e ∙ length-append held text in
    record {
      answers_count = h.answers_count;
      live_count = h.live_count;
      answers_fit = h.answers_fit;
      live_fits = omega (arith, few, short, long);
      whole = h.whole;
    }

-- fewer answers wait than are full
pub few_answers : (o : Outgoing) (answers : ℕ) → answers ≡ answers_len o.waiting → is_full o ≡ false → answers < 262144
few_answers o answers e h = omega (arith, leb-false 262144 (answers_len o.waiting) h, e)

-- less live text waits than is too much
pub few_live : (o : Outgoing) (live : ℕ) → live ≡ live_len o.waiting → is_over o ≡ false → live + length o.held_back < 1048576
few_live o live e h = omega (arith, leb-false 1048576 (live_len o.waiting + length o.held_back) h, e)

-- so many bytes of the first text were written
left_whole : (is_live : Bool) (bytes : List ℕ) (pieces : List Piece) → AreWhole pieces → AreWhole (left_of is_live bytes pieces)
left_whole is_live [] pieces h = h
left_whole is_live (b ∷ bytes) pieces h = (omega arith, h)

left_answers : (is_live : Bool) (bytes : List ℕ) (pieces : List Piece)
    → answers_len (left_of is_live bytes pieces) ≡ answer_bytes (record { is_live = is_live; bytes = bytes }) + answers_len pieces
left_answers true [] pieces = omega arith
left_answers false [] pieces = omega arith
left_answers true (b ∷ bytes) pieces = sum_by-cons answer_bytes (record { is_live = true; bytes = b ∷ bytes }) pieces
left_answers false (b ∷ bytes) pieces = sum_by-cons answer_bytes (record { is_live = false; bytes = b ∷ bytes }) pieces

left_live : (is_live : Bool) (bytes : List ℕ) (pieces : List Piece)
    → live_len (left_of is_live bytes pieces) ≡ live_bytes (record { is_live = is_live; bytes = bytes }) + live_len pieces
left_live true [] pieces = omega arith
left_live false [] pieces = omega arith
left_live true (b ∷ bytes) pieces = sum_by-cons live_bytes (record { is_live = true; bytes = b ∷ bytes }) pieces
left_live false (b ∷ bytes) pieces = sum_by-cons live_bytes (record { is_live = false; bytes = b ∷ bytes }) pieces

-- no text that waits is empty: where there is nothing to write, nothing waits
pub none_waits : (pieces : List Piece) → AreWhole pieces → first_bytes pieces ≡ [] → pieces ≡ []
none_waits [] h e = refl
none_waits (p ∷ pieces) (some, rest) e = absurd (omega (arith, some, ap length e))

-- how many bytes wait once so many of the first text were written
written_live : (pieces : List Piece) (count : ℕ) → is_live pieces ≡ true → count ≤ length (first_bytes pieces)
    → (count ≤ live_len pieces) × (live_len (written count pieces) + count ≡ live_len pieces) × (answers_len (written count pieces) ≡ answers_len pieces)
written_live [] count e few = absurd (cc e)
written_live (p ∷ pieces) count e few =
    let e1 = sum_by-cons live_bytes p pieces in
    let e2 = sum_by-cons answer_bytes p pieces in
    let e3 = left_live p.is_live (drop count p.bytes) pieces in
    let e4 = left_answers p.is_live (drop count p.bytes) pieces in
    let own : live_bytes p ≡ length p.bytes = rw e refl in
    let none : answer_bytes p ≡ 0 = rw e refl in
    let left : live_bytes (record { is_live = p.is_live; bytes = drop count p.bytes }) ≡ length (drop count p.bytes) = rw e refl in
    let gone : answer_bytes (record { is_live = p.is_live; bytes = drop count p.bytes }) ≡ 0 = rw e refl in
    let short : length (drop count p.bytes) ≡ length p.bytes - count = length-drop count p.bytes in
    (omega (arith, few, own, e1), omega (arith, few, own, left, short, e1, e3), omega (arith, none, gone, e2, e4))

written_answers : (pieces : List Piece) (count : ℕ) → is_live pieces ≡ false → count ≤ length (first_bytes pieces)
    → (count ≤ answers_len pieces) × (answers_len (written count pieces) + count ≡ answers_len pieces) × (live_len (written count pieces) ≡ live_len pieces)
written_answers [] count e few = (omega (arith, few), omega (arith, few), refl)
written_answers (p ∷ pieces) count e few =
    let e1 = sum_by-cons live_bytes p pieces in
    let e2 = sum_by-cons answer_bytes p pieces in
    let e3 = left_live p.is_live (drop count p.bytes) pieces in
    let e4 = left_answers p.is_live (drop count p.bytes) pieces in
    let none : live_bytes p ≡ 0 = rw e refl in
    let own : answer_bytes p ≡ length p.bytes = rw e refl in
    let gone : live_bytes (record { is_live = p.is_live; bytes = drop count p.bytes }) ≡ 0 = rw e refl in
    let left : answer_bytes (record { is_live = p.is_live; bytes = drop count p.bytes }) ≡ length (drop count p.bytes) = rw e refl in
    let short : length (drop count p.bytes) ≡ length p.bytes - count = length-drop count p.bytes in
    (omega (arith, few, own, e2), omega (arith, few, own, left, short, e2, e4), omega (arith, none, gone, e1, e3))

whole_written : (count : ℕ) (pieces : List Piece) → AreWhole pieces → AreWhole (written count pieces)
whole_written count [] h = tt
whole_written count (p ∷ pieces) (some, rest) = left_whole p.is_live (drop count p.bytes) pieces rest

-- so much of a live text was written
pub live_covers : (pieces : List Piece) (answers live count : ℕ) (held : List ℕ) → IsCounted pieces answers live held
    → is_live pieces ≡ true → count ≤ length (first_bytes pieces) → count ≤ live
live_covers pieces answers live count held h e few =
    let (covers, less, others) = written_live pieces count e few in
    omega (arith, covers, h.live_count)

pub counted_live_written : (pieces after : List Piece) (answers live count : ℕ) (held : List ℕ) → IsCounted pieces answers live held
    → after ≡ written count pieces → is_live pieces ≡ true → count ≤ length (first_bytes pieces)
    → IsCounted after answers (live - count) held
counted_live_written pieces after answers live count held h same e few =
    let (covers, less, others) = written_live pieces count e few in
    rw same record {
      answers_count = h.answers_count ∙ sym others;
      live_count = omega (arith, covers, less, h.live_count);
      answers_fit = h.answers_fit;
      live_fits = omega (arith, h.live_fits);
      whole = whole_written count pieces h.whole;
    }

-- so much of a text of an answer was written
pub answers_cover : (pieces : List Piece) (answers live count : ℕ) (held : List ℕ) → IsCounted pieces answers live held
    → is_live pieces ≡ false → count ≤ length (first_bytes pieces) → count ≤ answers
answers_cover pieces answers live count held h e few =
    let (covers, less, others) = written_answers pieces count e few in
    omega (arith, covers, h.answers_count)

pub counted_answers_written : (pieces after : List Piece) (answers live count : ℕ) (held : List ℕ) → IsCounted pieces answers live held
    → after ≡ written count pieces → is_live pieces ≡ false → count ≤ length (first_bytes pieces)
    → IsCounted after (answers - count) live held
counted_answers_written pieces after answers live count held h same e few =
    let (covers, less, others) = written_answers pieces count e few in
    rw same record {
      answers_count = omega (arith, covers, less, h.answers_count);
      live_count = h.live_count ∙ sym others;
      answers_fit = omega (arith, h.answers_fit);
      live_fits = h.live_fits;
      whole = whole_written count pieces h.whole;
    }
