-- The conference that entries lead to, one after another.
use Rattle.std.proofs.Common.{◌≡◌, ◌+◌, ℕ, true, List, [], ◌∷◌, ◌++◌, length, refl, sym, ◌∙◌, ap, subst, arith, length-append}
use Rattle.std.specs.Prelude.{Option, Some, None, is_some, Err}
use Rattle.floor_config.specs.Configuration.{Configuration}
use Rattle.floor_machine.specs.Journal.{IsJournal}
use Rattle.floor_machine.specs.declared.event.Event.{Event}
use Rattle.floor_room.specs.Calls.{Applied}
use Rattle.floor_room.specs.Ledger.{IsRefusedBy, Ledger, refusal, with_entry}
use Rattle.floor_room.specs.Room.{IsRoom, Room}
use Rattle.floor_room.specs.declared.refusal.RoomRefusal.{RoomRefusal}
use Rattle.floor_kept.specs.declared.opening.StepFault.TheVariants.{Refused}
use Rattle.floor_kept.specs.Body.{event_of, events_of}
use Rattle.floor_kept.specs.Opening.{IsFirstRefused, IsOpened, ledger_of, notes_of}
use Rattle.floor_kept.specs.declared.entry.Entry.{Entry}
use Rattle.floor_kept.specs.declared.entry.Entry.TheVariants.{Happened, Port, Word, End}
use Rattle.floor_kept.specs.declared.opening.Unlawful.{Unlawful}
use Rattle.floor_kept.specs.steps.Ran.{IsRefusedEntry, Ran, Stepped, fault_of}

pub event_more : (es : List Entry) (e : Event) → events_of (es ++ Happened e ∷ []) ≡ events_of es ++ e ∷ []
event_more [] e = refl
event_more (Happened f ∷ es) e = ap (λ (fs : List Event). f ∷ fs) (event_more es e)
event_more (Port user port ∷ es) e = event_more es e
event_more (Word key value ∷ es) e = event_more es e
event_more (End ∷ es) e = event_more es e

pub note_events : (es : List Entry) (n : Entry) → event_of n ≡ None → events_of (es ++ n ∷ []) ≡ events_of es
note_events [] (Happened e) h = cc h
note_events [] (Port user port) h = refl
note_events [] (Word key value) h = refl
note_events [] End h = refl
note_events (Happened f ∷ es) n h = ap (λ (fs : List Event). f ∷ fs) (note_events es n h)
note_events (Port user port ∷ es) n h = note_events es n h
note_events (Word key value ∷ es) n h = note_events es n h
note_events (End ∷ es) n h = note_events es n h

pub event_notes : (es : List Entry) (e : Event) → notes_of (es ++ Happened e ∷ []) ≡ notes_of es
event_notes [] e = refl
event_notes (Happened f ∷ es) e = event_notes es e
event_notes (Port user port ∷ es) e = ap (λ (ns : List Entry). Port user port ∷ ns) (event_notes es e)
event_notes (Word key value ∷ es) e = ap (λ (ns : List Entry). Word key value ∷ ns) (event_notes es e)
event_notes (End ∷ es) e = ap (λ (ns : List Entry). End ∷ ns) (event_notes es e)

pub note_more : (es : List Entry) (n : Entry) → event_of n ≡ None → notes_of (es ++ n ∷ []) ≡ notes_of es ++ n ∷ []
note_more [] (Happened e) h = cc h
note_more [] (Port user port) h = refl
note_more [] (Word key value) h = refl
note_more [] End h = refl
note_more (Happened f ∷ es) n h = note_more es n h
note_more (Port user port ∷ es) n h = ap (λ (ns : List Entry). Port user port ∷ ns) (note_more es n h)
note_more (Word key value ∷ es) n h = ap (λ (ns : List Entry). Word key value ∷ ns) (note_more es n h)
note_more (End ∷ es) n h = ap (λ (ns : List Entry). End ∷ ns) (note_more es n h)

-- an event that was taken, whatever was taken of the outboxes behind it
pub ran : (old mid new : Room) (e : Event) → Applied old mid e → new.ledger ≡ mid.ledger → Ran old new e
ran old mid new e applied same = record {
  allowed = applied.allowed;
  lawful = applied.lawful;
  next = same ∙ ap (λ (r : Room). r.ledger) applied.next;
}

-- the room, the notes and the count behind these entries
pub record Led (config : Configuration) (es : List Entry) (room : Room) (notes : List Entry) (number : ℕ) : Type 0 where
  pub ledger_is : room.ledger ≡ ledger_of config (events_of es)
  pub notes_are : notes ≡ notes_of es
  pub count_is : number ≡ length es

pub led_none : (config : Configuration) (room : Room) (notes : List Entry) → room.ledger ≡ ledger_of config [] → notes ≡ [] → Led config [] room notes 0
led_none config room notes l n = record { ledger_is = l; notes_are = n; count_is = refl }

pub led_event : (config : Configuration) (es : List Entry) (old new : Room) (notes : List Entry) (number next : ℕ) (e : Event)
    → Led config es old notes number → Ran old new e → next ≡ number + 1 → Led config (es ++ Happened e ∷ []) new notes next
led_event config es old new notes number next e led ran n = record {
  ledger_is = ran.next ∙ ap (λ (l : Ledger). with_entry l e) led.ledger_is ∙ ap (ledger_of config) (sym (event_more es e));
  notes_are = led.notes_are ∙ sym (event_notes es e);
  count_is = omega (arith, n, led.count_is, length-append es (Happened e ∷ []));
}

pub led_note : (config : Configuration) (es : List Entry) (room : Room) (notes more : List Entry) (number next : ℕ) (note : Entry)
    → Led config es room notes number → event_of note ≡ None → more ≡ notes ++ note ∷ [] → next ≡ number + 1 → Led config (es ++ note ∷ []) room more next
led_note config es room notes more number next note led none grown n = record {
  ledger_is = led.ledger_is ∙ ap (ledger_of config) (sym (note_events es note none));
  notes_are = grown ∙ ap (λ (ns : List Entry). ns ++ note ∷ []) led.notes_are ∙ sym (note_more es note none);
  count_is = omega (arith, n, led.count_is, length-append es (note ∷ []));
}

-- the room's journal is one
pub journal_of : (config : Configuration) (es : List Entry) (room : Room) (notes : List Entry) (number : ℕ) → Led config es room notes number → IsRoom room → IsJournal config (events_of es)
journal_of config es room notes number led kept =
    subst (λ (l : Ledger). IsJournal l.config l.journal) led.ledger_is kept.journal

pub opened_is : (config : Configuration) (es : List Entry) (room : Room) (notes : List Entry) (number : ℕ) → Led config es room notes number → IsRoom room → IsOpened config (events_of es) room
opened_is config es room notes number led kept = record { journal = journal_of config es room notes number led kept; ledger = led.ledger_is }

-- an event that is refused
pub refused_is : (config : Configuration) (all es behind : List Entry) (e : Event) (room : Room) (notes : List Entry) (number next place : ℕ) (unlawful : Unlawful)
    → Led config es room notes number → IsRoom room → all ≡ es ++ Happened e ∷ behind → is_some (refusal room.ledger e) ≡ true
    → next ≡ number + 1 → place ≡ length room.ledger.journal + 1 → unlawful.place ≡ place → unlawful.number ≡ next → IsFirstRefused config all unlawful
refused_is config all es behind e room notes number next place unlawful led kept parts why n p up un = record {
  before = es;
  event = e;
  behind = behind;
  parts = parts;
  journal = journal_of config es room notes number led kept;
  refused = ap (λ (l : Ledger). is_some (refusal l e)) (sym led.ledger_is) ∙ why;
  place = up ∙ p ∙ ap (λ (l : Ledger). length l.journal + 1) led.ledger_is;
  number = omega (arith, un, n, led.count_is);
}

-- an entry more, whichever it is
pub led_step : (config : Configuration) (es : List Entry) (old new : Room) (notes more : List Entry) (number next : ℕ) (entry : Entry)
    → Led config es old notes number → Stepped old new notes more entry → next ≡ number + 1 → Led config (es ++ entry ∷ []) new more next
led_step config es old new notes more number next (Happened e) led (ran, same) n =
    subst (λ (ns : List Entry). Led config (es ++ Happened e ∷ []) new ns next) (sym same) (led_event config es old new notes number next e led ran n)
led_step config es old new notes more number next (Port user port) led (same, grown) n =
    subst (λ (r : Room). Led config (es ++ Port user port ∷ []) r more next) (sym same) (led_note config es old notes more number next (Port user port) led refl grown n)
led_step config es old new notes more number next (Word key value) led (same, grown) n =
    subst (λ (r : Room). Led config (es ++ Word key value ∷ []) r more next) (sym same) (led_note config es old notes more number next (Word key value) led refl grown n)
led_step config es old new notes more number next End led (same, grown) n =
    subst (λ (r : Room). Led config (es ++ End ∷ []) r more next) (sym same) (led_note config es old notes more number next End led refl grown n)

-- an entry that is refused
pub refused_step : (config : Configuration) (all es behind : List Entry) (entry : Entry) (room : Room) (notes : List Entry) (number next place : ℕ) (unlawful : Unlawful)
    → Led config es room notes number → IsRoom room → all ≡ es ++ entry ∷ behind → IsRefusedEntry room entry
    → next ≡ number + 1 → place ≡ length room.ledger.journal + 1 → unlawful.place ≡ place → unlawful.number ≡ next → IsFirstRefused config all unlawful
refused_step config all es behind (Happened e) room notes number next place unlawful led kept parts why n p up un =
    refused_is config all es behind e room notes number next place unlawful led kept parts why n p up un
refused_step config all es behind (Port user port) room notes number next place unlawful led kept parts why n p up un = absurd why
refused_step config all es behind (Word key value) room notes number next place unlawful led kept parts why n p up un = absurd why
refused_step config all es behind End room notes number next place unlawful led kept parts why n p up un = absurd why

-- a refusal that isn't want of memory refuses the event
pub refused_for : (o : Option RoomRefusal) (r : RoomRefusal) → IsRefusedBy {T = Unit {0}} o (Err r) → fault_of r ≡ Refused → is_some o ≡ true
refused_for (Some other) r h e = refl
refused_for None r h e = cc (ap fault_of (sym h) ∙ e)
