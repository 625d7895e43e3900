-- What the file of a conference says, for whoever lets it go on.
use Rattle.std.specs.Prelude.{◌≡◌, ◌≢◌, ◌⊎◌, ℕ, ◌+◌, ◌<◌, nat_lt, ◌==◌, if◌then◌else◌, List, [], ◌∷◌, ◌++◌, length, filter, Option, Some, None}
use Rattle.floor_config.specs.Configuration.{Configuration}
use Rattle.floor_machine.specs.declared.event.Event.{Event}
use Rattle.floor_machine.specs.declared.event.Event.TheVariants as event
use Rattle.floor_kept.specs.Body.{events_of}
use Rattle.floor_kept.specs.File.{IsBadIn, IsFile, IsFileFault}
use Rattle.floor_kept.specs.declared.body.BadLine.{BadLine as BadLineAt}
use Rattle.floor_kept.specs.declared.entry.Entry.{Entry}
use Rattle.floor_kept.specs.declared.entry.Entry.TheVariants.{Happened, Port, Word, End}
use Rattle.floor_kept.specs.declared.file.FileFault.TheVariants.{Head}
use Rattle.floor_kept.specs.declared.head.HeadFault.{HeadFault}
use Rattle.floor_keep.specs.declared.found.Finish.{Finish}
use Rattle.floor_keep.specs.declared.found.Finish.TheVariants.{GoesOn, Closed, Ended}
use Rattle.floor_keep.specs.declared.found.Note.{Note}
use Rattle.floor_keep.specs.declared.found.Found.{Found}
use Rattle.floor_keep.specs.declared.found.FoundFault.{FoundFault}
use Rattle.floor_keep.specs.declared.found.FoundFault.TheVariants.{NotAJournal, Memory}
use Rattle.floor_keep.specs.declared.found.NotAJournal.{NotAJournal as NotAJournalAt}
use Rattle.floor_keep.specs.declared.found.Standing.{Standing}

-- how a file ends behind an entry, where it ended so before that: by the close or the end, and a port or a word ends nothing
abbrev pub finish_behind : Finish → Entry → Finish
finish_behind before (Happened event.Close) = Closed
finish_behind before (Happened e) = GoesOn
finish_behind before End = Ended
finish_behind before (Port user port) = before
finish_behind before (Word key value) = before

-- how a file of these entries ends, which ended so before them
abbrev pub finish_of : Finish → List Entry → Finish
finish_of before [] = before
finish_of before (entry ∷ entries) = finish_of (finish_behind before entry) entries

-- the ports and words among entries, each with how many events stand before it, where so many stand before them all
abbrev pub notes_of : ℕ → List Entry → List Note
notes_of count [] = []
notes_of count (Happened e ∷ entries) = notes_of (count + 1) entries
notes_of count (End ∷ entries) = notes_of count entries
notes_of count (Port user port ∷ entries) = record { behind = count; entry = Entry.Port user port } ∷ notes_of count entries
notes_of count (Word key value ∷ entries) = record { behind = count; entry = Entry.Word key value } ∷ notes_of count entries

-- So a file of these entries stands, which has so many bytes.
pub record IsStanding (conference len : ℕ) (entries : List Entry) (standing : Standing) : Type 0 where
  pub whose : standing.conference ≡ conference
  pub events : standing.events ≡ length (events_of entries)
  pub notes : standing.notes.items ≡ notes_of 0 entries
  pub torn : standing.stands + standing.torn ≡ len
  pub finish : standing.finish ≡ finish_of GoesOn entries

-- The bytes are the file of this conference with these events.
pub record IsFound (conference : ℕ) (bytes : List ℕ) (found : Found) : Type 0 where
  pub entries : List Entry
  pub file : IsFile bytes found.config entries found.standing.head_lines found.standing.stands
  pub whose : found.config.conference ≡ conference
  pub events : found.events.items ≡ events_of entries
  pub standing : IsStanding conference (length bytes) entries found.standing

-- The bytes have no head, or another conference's.
abbrev pub HasOtherHead : ℕ → List ℕ → Type 0
HasOtherHead conference bytes =
    ((fault : HeadFault) × IsFileFault bytes (Head fault))
    ⊎ ((config : Configuration) × (entries : List Entry) × (head_lines : ℕ) × (stands : ℕ) × IsFile bytes config entries head_lines stands × (config.conference ≢ conference))

-- The bytes aren't the file of this conference: that is told by place and line 0 of the head, or by those of the first line that can't be read.
pub record IsNoFile (conference : ℕ) (bytes : List ℕ) (told : NotAJournalAt) : Type 0 where
  pub whose : told.conference ≡ conference
  pub where_is : ((told.place ≡ 0) × (told.line ≡ 0) × HasOtherHead conference bytes)
      ⊎ ((bad : BadLineAt) × IsBadIn bytes bad × (told.place ≡ bad.place) × (told.line ≡ bad.number))

abbrev pub IsFoundFault : ℕ → List ℕ → FoundFault → Type 0
IsFoundFault conference bytes (NotAJournal told) = IsNoFile conference bytes told
IsFoundFault conference bytes Memory = Unit {0}

-- how many ports and words stand before the event of this place
abbrev pub notes_before : ℕ → List Note → ℕ
notes_before place notes = length (filter (λ note. nat_lt note.behind place) notes)

-- the port of a user behind an entry, where it was this one before
abbrev pub port_noted : Option ℕ → ℕ → Entry → Option ℕ
port_noted before user (Port of port) = if of == user then Some port else before
port_noted before user (Happened e) = before
port_noted before user (Word key value) = before
port_noted before user End = before

-- the port of a user, where it was this one before: the last that is noted
abbrev pub port_behind : Option ℕ → ℕ → List Note → Option ℕ
port_behind before user [] = before
port_behind before user (note ∷ notes) = port_behind (port_noted before user note.entry) user notes
