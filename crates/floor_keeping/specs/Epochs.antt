-- The epoch of the folder, as it is read in each turn: the number by which one server is fenced off from a folder that another one has now.
use Rattle.std.specs.Prelude.{ℕ, min, nat_eq, nat_le, ◌||◌, Bool, true, false, if◌then◌else◌, Option, Some, None}
use Rattle.floor_keep.specs.declared.fault.KeepFault.{KeepFault}
use Rattle.floor_keep.specs.declared.fault.KeepFault.TheVariants as fault
use Rattle.floor_keeping.specs.State.{later}
use Rattle.floor_keeping.specs.declared.epoch.Epoch.{Epoch}
use Rattle.floor_keeping.specs.declared.epoch.Reading.{Reading}
use Rattle.floor_keeping.specs.declared.epoch.Reading.TheVariants as reading

-- it was read in this turn, and is ours
abbrev pub is_ours : Reading → Bool
is_ours reading.Unread = false
is_ours (reading.Asked since) = false
is_ours reading.Ours = true
is_ours (reading.Waits since again) = false
is_ours (reading.Over cause) = false

-- the folder is another's, or its epoch couldn't be read for too long: nothing is done any more
abbrev pub is_over : Reading → Bool
is_over reading.Unread = false
is_over (reading.Asked since) = false
is_over reading.Ours = false
is_over (reading.Waits since again) = false
is_over (reading.Over cause) = true

-- what isn't known for 30 s isn't waited for any more; what couldn't be read may be again after 100 ms
abbrev pub passed_at : ℕ → Reading → Reading
passed_at now reading.Unread = reading.Unread
passed_at now (reading.Asked since) = if nat_le (later since 30000000) now then reading.Over fault.CannotKeep else reading.Asked since
passed_at now reading.Ours = reading.Ours
passed_at now (reading.Waits since again) = if nat_le (later since 30000000) now then reading.Over fault.CannotKeep else reading.Waits since again
passed_at now (reading.Over cause) = reading.Over cause

abbrev pub passed : ℕ → Epoch → Epoch
passed now e = record e { reading = passed_at now e.reading }

-- it is to be read: it wasn't in this turn, or the time has come to read it again
abbrev pub is_to_be_read : ℕ → Reading → Bool
is_to_be_read now reading.Unread = true
is_to_be_read now (reading.Asked since) = false
is_to_be_read now reading.Ours = false
is_to_be_read now (reading.Waits since again) = nat_le again now
is_to_be_read now (reading.Over cause) = false

-- it is ours or may be read: nobody waits for an answer, nor until it may be read again
abbrev pub is_free : ℕ → Reading → Bool
is_free now r = is_ours r || is_to_be_read now r

-- behind the asking; it isn't known since it was asked first
abbrev pub asked_at : ℕ → Reading → Reading
asked_at now reading.Unread = reading.Asked now
asked_at now (reading.Asked since) = reading.Asked since
asked_at now reading.Ours = reading.Ours
asked_at now (reading.Waits since again) = reading.Asked since
asked_at now (reading.Over cause) = reading.Over cause

abbrev pub asked : ℕ → Epoch → Epoch
asked now e = record e { reading = asked_at now e.reading }

-- the answer: ours where it is the number that the folder has to have, or had when it was read first; lost where it is another one; and where there is none it is read again
abbrev pub compared : Option ℕ → ℕ → Reading
compared None number = reading.Ours
compared (Some ours) number = if nat_eq number ours then reading.Ours else reading.Over fault.Lost

abbrev pub first_of : Option ℕ → ℕ → Option ℕ
first_of None number = Some number
first_of (Some ours) number = Some ours

abbrev pub answered : ℕ → Option ℕ → ℕ → Epoch → Epoch
answered now None since e = record e { reading = reading.Waits since (later now 100000) }
answered now (Some number) since e = record { ours = first_of e.ours number; reading = compared e.ours number }

-- an answer that nobody waits for changes nothing
abbrev pub read_at : ℕ → Option ℕ → Reading → Epoch → Epoch
read_at now number reading.Unread e = e
read_at now number (reading.Asked since) e = answered now number since e
read_at now number reading.Ours e = e
read_at now number (reading.Waits since again) e = e
read_at now number (reading.Over cause) e = e

abbrev pub read : ℕ → Option ℕ → Epoch → Epoch
read now number e = read_at now number e.reading e

-- the turn is over: what was ours is to be read in the next one
abbrev pub rested_at : Reading → Reading
rested_at reading.Unread = reading.Unread
rested_at (reading.Asked since) = reading.Asked since
rested_at reading.Ours = reading.Unread
rested_at (reading.Waits since again) = reading.Waits since again
rested_at (reading.Over cause) = reading.Over cause

abbrev pub rested : Epoch → Epoch
rested e = record e { reading = rested_at e.reading }

-- nothing is done any more
abbrev pub ended : KeepFault → Epoch → Epoch
ended cause e = record e { reading = reading.Over cause }

abbrev pub fault_of : Reading → Option KeepFault
fault_of reading.Unread = None
fault_of (reading.Asked since) = None
fault_of reading.Ours = None
fault_of (reading.Waits since again) = None
fault_of (reading.Over cause) = Some cause

-- when the time is wanted next
abbrev pub due_of : Reading → Option ℕ
due_of reading.Unread = None
due_of (reading.Asked since) = Some (later since 30000000)
due_of reading.Ours = None
due_of (reading.Waits since again) = Some (min again (later since 30000000))
due_of (reading.Over cause) = None
