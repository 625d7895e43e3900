-- What goes out to a client is one stream.
use Rattle.std.proofs.Common.{◌≡◌, ◌≤◌, ℕ, Bool, true, false, cond, List, [], ◌∷◌, ◌++◌, length, drop, append_assoc, refl, sym, ◌∙◌, ap, arith}
use Rattle.std.proofs.lemmas.Bool.{false≢true}
use Rattle.std.proofs.lemmas.List.{append-nil, drop-append-le, drop_all}
use Rattle.floor_control.specs.Outgoing.{Outgoing, Piece, first_bytes, is_over, left_of, put, written}
use Rattle.floor_control.specs.Streams.{TextsGoOutInOrder, all_bytes}

behind : (pieces : List Piece) (piece : Piece) → all_bytes (pieces ++ piece ∷ []) ≡ all_bytes pieces ++ piece.bytes
behind [] piece = append-nil piece.bytes
behind (p ∷ pieces) piece = ap (λ bytes. p.bytes ++ bytes) (behind pieces piece) ∙ sym (append_assoc p.bytes (all_bytes pieces) piece.bytes)

put_behind : (is_live : Bool) (text : List ℕ) (pieces : List Piece) → all_bytes (put is_live text pieces) ≡ all_bytes pieces ++ text
put_behind is_live [] pieces = sym (append-nil (all_bytes pieces))
put_behind is_live (b ∷ text) pieces = behind pieces (record { is_live = is_live; bytes = b ∷ text })

told_on : (text : List ℕ) (o : Outgoing) (over answering : Bool) → over ≡ false → answering ≡ false
    → all_bytes (cond over o (cond answering (record o { held_back = o.held_back ++ text }) (record o { waiting = put true text o.waiting }))).waiting
    ≡ all_bytes o.waiting ++ text
told_on text o true answering e h = absurd (false≢true (sym e))
told_on text o false true e h = absurd (false≢true (sym h))
told_on text o false false e h = put_behind true text o.waiting

held_on : (text : List ℕ) (o : Outgoing) (over answering : Bool) → over ≡ false → answering ≡ true
    → cond over o (cond answering (record o { held_back = o.held_back ++ text }) (record o { waiting = put true text o.waiting }))
    ≡ record o { held_back = o.held_back ++ text }
held_on text o true answering e h = absurd (false≢true (sym e))
held_on text o false true e h = refl
held_on text o false false e h = absurd (false≢true h)

left_bytes : (is_live : Bool) (bytes : List ℕ) (pieces : List Piece) → all_bytes (left_of is_live bytes pieces) ≡ bytes ++ all_bytes pieces
left_bytes is_live [] pieces = refl
left_bytes is_live (b ∷ bytes) pieces = refl

written_front : (count : ℕ) (pieces : List Piece) → count ≤ length (first_bytes pieces) → all_bytes (written count pieces) ≡ drop count (all_bytes pieces)
written_front count [] few = sym (drop_all count [] (omega arith))
written_front count (p ∷ pieces) few = left_bytes p.is_live (drop count p.bytes) pieces ∙ sym (drop-append-le count p.bytes (all_bytes pieces) few)

pub texts_go_out_in_order : TextsGoOutInOrder
texts_go_out_in_order =
    record {
      answered = λ text o. put_behind false text o.waiting;
      told = λ text o e h. told_on text o (is_over o) o.is_answering e h;
      held_back = λ text o e h. held_on text o (is_over o) o.is_answering e h;
      ended = λ o. put_behind true o.held_back o.waiting;
      written = λ count o few. written_front count o.waiting few;
    }
