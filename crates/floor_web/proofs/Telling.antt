-- The messages of a server's stream, sent one after another.
use Rattle.std.proofs.Common.{◌≡◌, ℕ, ◌<◌, true, false, List, [], ◌∷◌, ◌++◌, length, map, refl, sym, ap, ◌∙◌, append-nil, append_assoc, arith, length-append}
use Rattle.std.proofs.lemmas.List.{map-append}
use Rattle.floor_wire.specs.Message.{IsMessage, messages, rest}
use Rattle.floor_wire.proofs.Messages.{rest-whole}
use Rattle.websocket.specs.Connection.{Connection, Outgoing}
use Rattle.floor_web.specs.Frames.{start, frame_of, bytes_of, data_frame}
use Rattle.floor_web.specs.steps.Telling.{PassesOn}
use Rattle.floor_web.proofs.Closing.{bytes_of-append}

-- These messages were sent, and these are held still.
pub record Passing (context : Connection) (held left down_old down_new : List ℕ) : Type 0 where
  pub passed : List (List ℕ)
  pub front : messages held ≡ passed ++ messages left
  pub rest_is : rest left ≡ rest held
  pub context_is : context ≡ start
  pub down : down_new ≡ down_old ++ bytes_of (map data_frame passed)

pub passing-none : (context : Connection) (held down : List ℕ) → context ≡ start → Passing context held held down down
passing-none context held down is = record { passed = []; front = refl; rest_is = refl; context_is = is; down = sym (append-nil down) }

pub passing-more : (context after : Connection) (held mid left down_old down_mid down_new m : List ℕ) → Passing context held mid down_old down_mid
    → messages mid ≡ m ∷ messages left → rest left ≡ rest mid → after ≡ start → down_new ≡ down_mid ++ frame_of (data_frame m)
    → Passing after held left down_old down_new
passing-more context after held mid left down_old down_mid down_new m p front rest_is is sent =
    record {
      passed = p.passed ++ m ∷ [];
      front = p.front ∙ ap (λ (l : List (List ℕ)). p.passed ++ l) front ∙ sym (append_assoc p.passed (m ∷ []) (messages left));
      rest_is = rest_is ∙ p.rest_is;
      context_is = is;
      down = sent ∙ ap (λ (l : List ℕ). l ++ frame_of (data_frame m)) p.down ∙ append_assoc down_old (bytes_of (map data_frame p.passed)) (frame_of (data_frame m))
          ∙ ap (λ (l : List ℕ). down_old ++ (bytes_of (map data_frame p.passed) ++ l)) (sym (append-nil (frame_of (data_frame m))))
          ∙ ap (λ (l : List ℕ). down_old ++ l) (sym (bytes_of-append (map data_frame p.passed) (data_frame m ∷ [])))
          ∙ ap (λ (l : List Outgoing). down_old ++ bytes_of l) (sym (map-append data_frame p.passed (m ∷ [])));
    }

pub passes_all : (context : Connection) (held mid left down_old down_new : List ℕ) → Passing context held mid down_old down_new → messages mid ≡ [] → left ≡ mid
    → PassesOn context held left down_old down_new true
passes_all context held mid left down_old down_new p none same =
    record {
      passed = p.passed;
      others = [];
      front = p.front ∙ ap (λ (l : List (List ℕ)). p.passed ++ l) none;
      context_is = p.context_is;
      down = p.down;
      all = λ _. (refl, same ∙ sym (rest-whole mid none) ∙ p.rest_is);
    }

pub passes_some : (context after : Connection) (held mid left down_old down_mid down_new : List ℕ) → Passing context held mid down_old down_mid → after ≡ start → down_new ≡ down_mid
    → PassesOn after held left down_old down_new false
passes_some context after held mid left down_old down_mid down_new p is same =
    record {
      passed = p.passed;
      others = messages mid;
      front = p.front;
      context_is = is;
      down = same ∙ p.down;
      all = λ granted. absurd (cc granted);
    }

-- a message that is taken off leaves less
pub taken_off_shrinks : (mid m left : List ℕ) → IsMessage m → mid ≡ m ++ left → length left < length mid
taken_off_shrinks mid m left is_message is = omega (arith, ap length is, length-append m left, is_message)
