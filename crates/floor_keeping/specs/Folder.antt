-- The folder's start: it is locked, looked at, and the files of the conferences that go on are read one after another.
use Rattle.std.specs.Prelude.{ℕ, Bool, true, false, if◌then◌else◌, nat_eq, List, [], ◌∷◌, Option, Some, None}
use Rattle.floor_keeping.specs.declared.deed.Deed.{Deed}
use Rattle.floor_keeping.specs.declared.deed.Deed.TheVariants as deed
use Rattle.floor_keeping.specs.declared.folder.Stage.{Stage}
use Rattle.floor_keeping.specs.declared.folder.Stage.TheVariants as stage

-- how far it is, the conferences whose files are to be read, and the one whose file is
pub record Folder : Type 0 where
  pub stage : Stage
  pub unread : List ℕ
  pub reading : Option ℕ

-- it is locked for this process
abbrev pub is_locked : Stage → Bool
is_locked stage.New = false
is_locked stage.Locking = false
is_locked stage.Locked = true
is_locked stage.Finding = true
is_locked stage.Found = true

-- that is awaited
abbrev pub is_locking : Stage → Bool
is_locking stage.New = false
is_locking stage.Locking = true
is_locking stage.Locked = false
is_locking stage.Finding = false
is_locking stage.Found = false

-- what is in it is awaited
abbrev pub is_finding : Stage → Bool
is_finding stage.New = false
is_finding stage.Locking = false
is_finding stage.Locked = false
is_finding stage.Finding = true
is_finding stage.Found = false

-- one file is read at a time
abbrev pub read_next : Option ℕ → List ℕ → Option Deed
read_next None [] = None
read_next None (c ∷ cs) = Some (deed.ReadFile c)
read_next (Some c) cs = None

-- what is to be done of it next
abbrev pub next_at : Stage → Folder → Option Deed
next_at stage.New f = Some deed.Lock
next_at stage.Locking f = None
next_at stage.Locked f = Some deed.Find
next_at stage.Finding f = None
next_at stage.Found f = read_next f.reading f.unread

abbrev pub next_of : Folder → Option Deed
next_of f = next_at f.stage f

-- behind that
abbrev pub reads_next : Option ℕ → List ℕ → Folder
reads_next None [] = record { stage = stage.Found; unread = []; reading = None }
reads_next None (c ∷ cs) = record { stage = stage.Found; unread = cs; reading = Some c }
reads_next (Some c) cs = record { stage = stage.Found; unread = cs; reading = Some c }

abbrev pub asked_at : Stage → Folder → Folder
asked_at stage.New f = record f { stage = stage.Locking }
asked_at stage.Locking f = f
asked_at stage.Locked f = record f { stage = stage.Finding }
asked_at stage.Finding f = f
asked_at stage.Found f = reads_next f.reading f.unread

abbrev pub asked : Folder → Folder
asked f = asked_at f.stage f

-- all of it is known
abbrev pub are_read : Option ℕ → List ℕ → Bool
are_read None [] = true
are_read None (c ∷ cs) = false
are_read (Some c) cs = false

abbrev pub is_ready_at : Stage → Folder → Bool
is_ready_at stage.New f = false
is_ready_at stage.Locking f = false
is_ready_at stage.Locked f = false
is_ready_at stage.Finding f = false
is_ready_at stage.Found f = are_read f.reading f.unread

abbrev pub is_ready : Folder → Bool
is_ready f = is_ready_at f.stage f

-- what the answers lead to: one that nobody waits for changes nothing
abbrev pub locked : Folder → Folder
locked f = if is_locking f.stage then record f { stage = stage.Locked } else f

abbrev pub found : List ℕ → Folder → Folder
found conferences f = if is_finding f.stage then record f { stage = stage.Found; unread = conferences } else f

-- the file of this conference is read
abbrev pub is_reading_at : ℕ → Option ℕ → Bool
is_reading_at conference None = false
is_reading_at conference (Some c) = nat_eq c conference

abbrev pub is_reading : ℕ → Folder → Bool
is_reading conference f = is_reading_at conference f.reading

abbrev pub read : ℕ → Folder → Folder
read conference f = if is_reading conference f then record f { reading = None } else f
