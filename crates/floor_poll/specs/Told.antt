-- What is told of a conference that is broken off since its file has failed: no more than the file has.
use Rattle.std.specs.Prelude.{◌≡◌, ℕ, min, Bool, true, false, if◌then◌else◌, List, take, Option, Some, None, Result, Err}
use Rattle.floor_control.specs.declared.refusal.ControlRefusal.{ControlRefusal}
use Rattle.floor_machine.specs.declared.event.Event.{Event}
use Rattle.floor_room.specs.Ledger.{Ledger}
use Rattle.floor_room.specs.Status.{IsStatus}
use Rattle.floor_room.specs.declared.status.Phase.TheVariants.{Broken}
use Rattle.floor_room.specs.declared.status.Status.{Status}
use Rattle.floor_poll.specs.declared.places.Places.{Places}
use Rattle.floor_poll.specs.Refusals.{broken}

-- how many events the file has of a conference that is broken off since the file failed
abbrev pub broken_of : Places → Option ℕ
broken_of p = if p.is_broken then Some p.kept else None

abbrev pub broken_at : Option Places → Option ℕ
broken_at None = None
broken_at (Some p) = broken_of p

-- what is known of a conference whose file has so many events; of one that is broken off what the file had
abbrev pub kept_of : ℕ → Places → Places
kept_of events p = if p.is_broken then p else record p { kept = events }

-- it is broken off since its file has failed
abbrev pub broken_off : Places → Places
broken_off p = record p { is_broken = true }

-- it goes on without its file, which has failed
abbrev pub unkept : Places → Places
unkept p = record p { is_unkept = true }

-- whether a conference isn't kept any more that was
abbrev pub is_unkept_at : Option Places → Bool
is_unkept_at None = false
is_unkept_at (Some p) = p.is_unkept

-- of the journal, what is told
abbrev pub told_of : Option ℕ → List Event → List Event
told_of None journal = journal
told_of (Some events) journal = take events journal

-- up to which event a journal is told, where that many were asked for
abbrev pub told_until : Option ℕ → ℕ → ℕ
told_until None until = until
told_until (Some events) until = min until events

-- what is told of what became of an act upon it: in the turn that broke it off nothing that was done is in the file
abbrev pub told_done : Option ℕ → Result ℕ ControlRefusal → Result ℕ ControlRefusal
told_done None done = done
told_done (Some events) done = Err broken

-- how it stands
abbrev pub IsToldAs : Option ℕ → Ledger → Status → Type 0
IsToldAs None l s = IsStatus l s
IsToldAs (Some events) l s = s ≡ record { members = 0; ongoing = 0; events = events; phase = Broken }
