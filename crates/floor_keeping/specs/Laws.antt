-- What a file was answered to have is a front of what was put to it, and what is kept is what stands there.
use Rattle.std.specs.Prelude.{◌≡◌, ◌≤◌, ◌<◌, ◌⊎◌, ℕ, nat_lt, true, false, ◌||◌, List, [], ◌∷◌, ◌++◌, length, None, Some}
use Rattle.floor_kept.specs.Laws.{Turn, turns_lines}
use Rattle.floor_keeping.specs.Calls.{Call, Calls, Does, Next, begin_it, have_read, steps_of}
use Rattle.floor_keeping.specs.Epochs as epoch
use Rattle.floor_keeping.specs.Files.{Files, epoch_at, file_at, time_at, until_at}
use Rattle.floor_keeping.specs.Folder.{is_locked}
use Rattle.floor_keeping.specs.Kept.{KeptFile}
use Rattle.floor_keeping.specs.Runs.{Past, Step, begun, steps}
use Rattle.floor_keeping.specs.State.{asks_in_turn, asks_the_disk, is_append, is_kept, is_open, with_events}
use Rattle.floor_keeping.specs.declared.policy.Policy.{Policy}
use Rattle.floor_keeping.specs.declared.state.Asked.TheVariants as asked
use Rattle.floor_keeping.specs.declared.state.Course.{Course}
use Rattle.floor_keeping.specs.declared.state.Course.TheVariants as course
use Rattle.floor_keeping.specs.declared.state.Front.{Front}

-- how many events there are behind these turns, where there were so many before
abbrev pub events_behind : ℕ → List Turn → ℕ
events_behind events [] = events
events_behind events (t ∷ ts) = events_behind (length t.journal) ts

-- These bytes are what the first turns add to a file in which so many events stand, and so many stand there behind them.
pub record IsOfTurns (events : ℕ) (bytes : List ℕ) (count : ℕ) (turns : List Turn) : Type 0 where
  pub bytes_are : bytes ≡ turns_lines events turns
  pub count_is : count ≡ events_behind events turns

-- Of these turns the first ones are out, where an Append is, and the others wait.
pub record IsWaiting (f : KeptFile) (turns : List Turn) : Type 0 where
  pub sent : List Turn
  pub next : List Turn
  pub parts : turns ≡ sent ++ next
  pub out : is_append f.state.asked ≡ true → IsOfTurns f.state.written f.out f.state.sent sent
  pub idle : is_append f.state.asked ≡ false → sent ≡ []
  pub waits : IsOfTurns (events_behind f.state.written sent) f.next f.state.events next

-- Of what was put to a file the first turns stand in it, and no more: they are the texts of which an Append was answered Done, one behind another. While it is kept, or an Append is out,
-- all others wait. What is kept is what stands in it, or with the disk asked in each turn what did when the last Sync was asked that was answered Done: the first of those turns.
pub record IsFront (p : Policy) (events : ℕ) (past : Past) : Type 0 where
  pub done : List Turn
  pub behind : List Turn
  pub parts : past.turns ≡ done ++ behind
  pub written : IsOfTurns events past.texts past.file.state.written done
  pub waiting : (is_kept past.file.state.course || is_append past.file.state.asked) ≡ true → IsWaiting past.file behind
  pub at_once : asks_in_turn p.syncing ≡ false → past.file.state.kept ≡ past.file.state.written
  pub on_disk : List Turn
  pub later : List Turn
  pub on_disk_parts : done ≡ on_disk ++ later
  pub synced : asks_in_turn p.syncing ≡ true → IsOfTurns events past.synced past.file.state.kept on_disk

-- Whatever becomes of a file in which so many events stand, and for which nothing waits, that holds.
abbrev pub WhatIsKeptIsWritten : Type 0
WhatIsKeptIsWritten =
    (p : Policy) (events : ℕ) (front : Front) (course : Course) (head : List ℕ) (ss : List Step)
    → IsFront p events (steps p ss (begun record { state = with_events events front course; head = head; out = []; next = [] }))

-- All that was put to a file stands in it, and as many events as that has are kept, and were reported to be. The disk has all of it, where it is asked in each turn; and where it is asked
-- once a second, it has or will be asked for it.
pub record AllIsKept (p : Policy) (now events : ℕ) (past : Past) : Type 0 where
  pub written : past.texts ≡ turns_lines events past.turns
  pub kept : past.file.state.events ≤ past.file.state.kept
  pub reported : nat_lt past.file.state.reported past.file.state.kept ≡ false
  pub in_turn : asks_in_turn p.syncing ≡ true → past.synced ≡ past.texts
  pub once_a_second : asks_the_disk p.syncing ≡ true → (past.synced ≡ past.texts) ⊎ ((t : ℕ) × (past.file.state.sync_at ≡ Some t) × (now < t))

-- no answer is awaited of it, and more may be put to it
pub record IsAtRest (f : KeptFile) : Type 0 where
  pub opened : is_open f.state.course ≡ true
  pub asked : f.state.asked ≡ asked.Nothing
  pub synced : f.state.synced ≡ None

-- The file of a conference that was begun or resumed, behind whatever calls by which it isn't again: it is what its own steps make of it, and no other conference's.
abbrev pub EachFileIsItsOwn : Type 0
EachFileIsItsOwn =
    (c : ℕ) (f g : KeptFile) (calls : List Call) (first last : Files) (run : Calls calls first last) → file_at first c ≡ Some f → begin_it c calls ≡ false
    → file_at last c ≡ Some g → g ≡ (steps first.table.policy (steps_of c calls first last run) (begun f)).file

-- Where `next` gave nothing behind whatever calls, of a folder that is locked, and whose epoch is ours or may be read, and no answer is awaited of the file of a conference that goes on:
-- all that was put to it is kept.
abbrev pub WhatWasPutIsKept : Type 0
WhatWasPutIsKept =
    (c now events : ℕ) (front : Front) (head : List ℕ) (f : KeptFile) (calls : List Call) (first before last : Files) (run : Calls calls first before) → Does (Next now None) before last →
    let begin : KeptFile = record { state = with_events events front course.GoesOn; head = head; out = []; next = [] } in
    file_at first c ≡ Some begin → begin_it c calls ≡ false → file_at last c ≡ Some f → IsAtRest f → is_locked before.folder.stage ≡ true
    → epoch.is_free (time_at now before) (epoch_at now before).reading ≡ true
    → AllIsKept first.table.policy (until_at now before) events (steps first.table.policy (steps_of c calls first before run) (begun begin))

-- Where `next` may give a deed that needs it, behind whatever calls, the epoch was read in the same turn, and was the number that it has to be.
abbrev pub NoTurnGoesBeforeItsEpoch : Type 0
NoTurnGoesBeforeItsEpoch =
    (calls : List Call) (first last : Files) (now : ℕ) → Calls calls first last → epoch.is_ours first.epoch.reading ≡ false
    → epoch.is_ours (epoch_at now last).reading ≡ true → (n : ℕ) × (last.epoch.ours ≡ Some n) × (have_read n calls ≡ true)
