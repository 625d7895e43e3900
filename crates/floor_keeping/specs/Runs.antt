-- What becomes of one file, step by step: what was put to it, what it was answered to have, and what the disk was.
use Rattle.std.specs.Prelude.{ℕ, if◌then◌else◌, List, [], ◌∷◌, ◌++◌, Option, Some, None}
use Rattle.floor_machine.specs.declared.event.Event.{Event}
use Rattle.floor_kept.specs.Laws.{Turn}
use Rattle.floor_kept.specs.declared.entry.Entry.TheVariants.{End}
use Rattle.floor_keeping.specs.Kept.{KeptFile, ask, asked_of, changed, close, put}
use Rattle.floor_keeping.specs.State.{is_append, is_done, is_open, is_sync}
use Rattle.floor_keeping.specs.declared.kept.Change.{Change}
use Rattle.floor_keeping.specs.declared.kept.Change.TheVariants as change
use Rattle.floor_keeping.specs.declared.policy.Policy.{Policy}
use Rattle.floor_keeping.specs.declared.state.Asked.{Asked}

-- a call that may change a file: `put` and `close` with what they were given, `next` at a time, or an answer at one
pub data Step : Type 0 where
  Put : Turn → Step
  Close : List Event → Step
  Next : (now : ℕ) → Step
  Answered : (now : ℕ) → Change → Step

-- The file; the turns that were put to it, and the texts that an Append was answered Done for, one behind another; the texts that stood there when the Sync was
-- asked that is out; and those that did when the last one was that was answered Done.
pub record Past : Type 0 where
  pub file : KeptFile
  pub turns : List Turn
  pub texts : List ℕ
  pub asked : List ℕ
  pub synced : List ℕ

-- a file of which nothing is known yet
abbrev pub begun : KeptFile → Past
begun f = record { file = f; turns = []; texts = []; asked = []; synced = [] }

-- the turn by which a conference was closed
abbrev pub last_turn : List Event → Turn
last_turn journal = record { journal = journal; notes = End ∷ [] }

-- of what an answer says that it was appended: what was out, where that was awaited
abbrev pub appended_by : Change → KeptFile → List ℕ
appended_by (change.Begun o) f = []
appended_by (change.Cut o) f = []
appended_by (change.Appended o) f = if is_append f.state.asked then (if is_done o then f.out else []) else []
appended_by (change.Synced o) f = []
appended_by (change.Renamed o) f = []
appended_by (change.Spoiled o) f = []
appended_by (change.Emptied o) f = []
appended_by (change.GivenUp cause) f = []

-- what the disk has behind an answer: what stood there when it was asked, where that was awaited
abbrev pub synced_at : Option ℕ → Past → List ℕ
synced_at None past = past.synced
synced_at (Some events) past = past.asked

abbrev pub synced_by : Change → Past → List ℕ
synced_by (change.Begun o) past = past.synced
synced_by (change.Cut o) past = past.synced
synced_by (change.Appended o) past = past.synced
synced_by (change.Synced o) past = if is_done o then synced_at past.file.state.synced past else past.synced
synced_by (change.Renamed o) past = past.synced
synced_by (change.Spoiled o) past = past.synced
synced_by (change.Emptied o) past = past.synced
synced_by (change.GivenUp cause) past = past.synced

-- one step further; nothing is put to a file that isn't open
abbrev pub putting : Turn → KeptFile → Past → Past
putting turn f past = if is_open past.file.state.course then record past { file = f; turns = past.turns ++ turn ∷ [] } else past

abbrev pub asking : Asked → Past → Past
asking a past = record past { file = ask a past.file; asked = if is_sync a then past.texts else past.asked }

abbrev pub step : Policy → Step → Past → Past
step p (Put turn) past = putting turn (put turn.journal turn.notes past.file) past
step p (Close journal) past = putting (last_turn journal) (close journal past.file) past
step p (Next now) past = asking (asked_of p now past.file) past
step p (Answered now c) past = record past {
  file = changed p now c past.file;
  texts = past.texts ++ appended_by c past.file;
  synced = synced_by c past;
}

-- many, the first in front
abbrev pub steps : Policy → List Step → Past → Past
steps p [] past = past
steps p (s ∷ ss) past = steps p ss (step p s past)
