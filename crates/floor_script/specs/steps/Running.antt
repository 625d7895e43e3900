-- What conferences stand for, as lines are run over them.
use Rattle.std.specs.Prelude.{◌≡◌, ℕ, true, false, List, [], ◌∷◌, Option, Result, Ok, Err}
use Rattle.std.specs.Io.KnownBytes.{Appends}
use Rattle.floor_config.specs.Configuration.{Configuration}
use Rattle.floor_config.specs.declared.fault.ConfigFault.{ConfigFault}
use Rattle.floor_script.specs.Run.{Leaves, said}
use Rattle.floor_script.specs.State.{State}
use Rattle.floor_script.specs.Written.{Began}
use Rattle.floor_script.specs.declared.conferences.Conferences.{Conferences}
use Rattle.floor_script.specs.declared.fault.RunFault.{RunFault}
use Rattle.floor_script.specs.declared.fault.RunFault.TheVariants as run
use Rattle.floor_script.specs.steps.Standing.{Leads, Stands, opened}

-- the state in which the hub was asked to open conferences, one after another
abbrev pub opened_all : List Configuration → State → State
opened_all [] s = s
opened_all (config ∷ more) s = opened_all more (opened config s)

-- the conferences that a reading gives were opened
abbrev pub AreOpened : Result (List Configuration) ConfigFault → Conferences → Conferences → Type 0
AreOpened (Ok configs) old new = Leads (opened_all configs) old new
AreOpened (Err fault) old new = ⊥

-- A line was run, and what it says was printed.
pub record Runs (number : ℕ) (line : List ℕ) (old new : Conferences) (was is : Option (List ℕ)) : Type 0 where
  pub goes_on : (s : State) → Stands old s → (said s number line).is_refused ≡ false
  pub leads : (s : State) → Stands old s → Stands new (said s number line).state
  pub printed : (s : State) → Stands old s → Appends was is (said s number line).text

-- A line was refused, and its fault was printed.
pub record Refuses (number : ℕ) (line : List ℕ) (old : Conferences) (was is : Option (List ℕ)) : Type 0 where
  pub refused : (s : State) → Stands old s → (said s number line).is_refused ≡ true
  pub printed : (s : State) → Stands old s → Appends was is (said s number line).text

-- A beginning was printed of what a line says.
pub record Stopped (number : ℕ) (line : List ℕ) (old : Conferences) (was is : Option (List ℕ)) : Type 0 where
  pub printed : (s : State) → Stands old s → Began was is (said s number line).text

-- what a line leaves that ended the run by this fault: after want of memory nothing, and none ends by a read fault
abbrev pub LeavesLine : RunFault → ℕ → List ℕ → Conferences → Option (List ℕ) → Option (List ℕ) → Type 0
LeavesLine run.Refused number line old was is = Refuses number line old was is
LeavesLine run.CannotRead number line old was is = ⊥
LeavesLine run.CannotWrite number line old was is = Stopped number line old was is
LeavesLine run.Memory number line old was is = Appends was is []

-- what the line of a fault leaves: it was printed, or a beginning, or nothing
abbrev pub LeavesText : RunFault → List ℕ → Option (List ℕ) → Option (List ℕ) → Type 0
LeavesText run.Refused text was is = Appends was is text
LeavesText run.CannotRead text was is = ⊥
LeavesText run.CannotWrite text was is = Began was is text
LeavesText run.Memory text was is = Appends was is []

-- what bytes leave that ended a run by this fault: of such as are no text nothing was printed
abbrev pub LeavesBytes : RunFault → List ℕ → Option (List ℕ) → Option (List ℕ) → Type 0
LeavesBytes run.Refused bytes was is = Leaves run.Refused bytes was is
LeavesBytes run.CannotRead bytes was is = Appends was is []
LeavesBytes run.CannotWrite bytes was is = Leaves run.CannotWrite bytes was is
LeavesBytes run.Memory bytes was is = Leaves run.Memory bytes was is

-- by this fault a read ends
abbrev pub EndsRead : RunFault → Type 0
EndsRead run.Refused = ⊥
EndsRead run.CannotRead = Unit {0}
EndsRead run.CannotWrite = ⊥
EndsRead run.Memory = Unit {0}
