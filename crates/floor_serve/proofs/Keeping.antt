-- What a seat keeps of a message that its booth took.
use Rattle.std.proofs.Common.{◌≡◌, ℕ, ◌-◌, List, [], ◌∷◌, ◌++◌, length, Some, true, refl, sym, ap, ◌∙◌, arith, append-nil, length-append}
use Rattle.std.specs.Prelude.{slice_get, option_and_then}
use Rattle.floor_machine.specs.declared.event.Event.{Event}
use Rattle.floor_machine.specs.declared.event.Event.TheVariants.{Message}
use Rattle.floor_machine.specs.Events.{message}
use Rattle.floor_machine.specs.Journal.{parcels_of}
use Rattle.floor_room.specs.Ledger.{conference_of}
use Rattle.floor_serve.specs.Booth.{Applied, Began, Booth, off}
use Rattle.floor_serve.specs.steps.Last.{last_message}

end-of : (es : List Event) (e : Event) → slice_get (es ++ e ∷ []) (length es) ≡ Some e
end-of [] e = refl
end-of (x ∷ es) e = end-of es e

last-of : (es : List Event) (n : ℕ) (bytes : List ℕ) → last_message (es ++ Message n bytes ∷ []) ≡ Some bytes
last-of es n bytes =
    let place : length (es ++ Message n bytes ∷ []) - 1 ≡ length es = omega (arith, length-append es (Message n bytes ∷ [])) in
    ap (λ (k : ℕ). option_and_then message (slice_get (es ++ Message n bytes ∷ []) k)) place ∙ ap (option_and_then message) (end-of es (Message n bytes))

-- the message that a booth took is the last of its journal
pub last_taken : (old new : Booth) (n : ℕ) (bytes : List ℕ) → Applied old new (Message n bytes) [] → last_message new.ledger.journal ≡ Some bytes
last_taken old new n bytes h = ap (λ (b : Booth). last_message b.ledger.journal) h.next ∙ last-of old.ledger.journal n bytes

-- an event that was taken is one that was begun, once the conference is broken off
pub began_whole : (old mid new : Booth) (e : Event) → Applied old mid e [] → new ≡ off mid → Began old new e []
began_whole old mid new e h is =
    record {
      lawful = h.lawful;
      put = parcels_of (conference_of old.ledger) e;
      rest = [];
      all = sym (append-nil (parcels_of (conference_of old.ledger) e));
      ledger = ap (λ (b : Booth). b.ledger) is ∙ ap (λ (b : Booth). record b.ledger { is_broken = true }) h.next;
      senders = ap (λ (b : Booth). b.senders) is ∙ ap (λ (b : Booth). b.senders) h.next;
    }
