-- Runs of the value: calls, one after another, each of which did what its contract says.
use Rattle.std.specs.Prelude.{◌≡◌, ℕ, Bool, true, false, ◌||◌, nat_eq, List, [], ◌∷◌, ◌++◌, length, Option, Some, None, is_some}
use Rattle.std.specs.Option.{option_map}
use Rattle.floor_machine.specs.declared.event.Event.{Event}
use Rattle.floor_keep.specs.declared.found.Standing.{Standing}
use Rattle.floor_kept.specs.Laws.{Turn}
use Rattle.floor_keeping.specs.Deeds.{conference_of}
use Rattle.floor_keeping.specs.Epochs as epoch
use Rattle.floor_keeping.specs.Files.{Files, IsDone, epoch_at, epoch_behind, file_at, passed, time_at, until_at}
use Rattle.floor_keeping.specs.Kept.{begins, changed, close, put, resumes}
use Rattle.floor_keeping.specs.Runs.{Step}
use Rattle.floor_keeping.specs.Runs as one
use Rattle.floor_keeping.specs.Table.{Asks, SameFiles, SameOthers, Took}
use Rattle.floor_keeping.specs.declared.deed.Deed.{Deed}
use Rattle.floor_keeping.specs.declared.kept.Change.{Change}
use Rattle.floor_keeping.specs.declared.policy.Policy.{Policy}

-- a call that may change something: those that were taken, with what they were given, and what `next` gave; `Answered` is an answer of a file's, or that it can't be kept;
-- `Other` is any other, and any that was refused
pub data Call : Type 0 where
  Begin : (conference : ℕ) → List ℕ → Call
  Resume : Standing → Call
  Put : (conference : ℕ) → Turn → Call
  Close : (conference : ℕ) → List Event → Call
  Answered : (conference : ℕ) → Change → Call
  Read : Option ℕ → Call
  Next : (now : ℕ) → Option Deed → Call
  Other : Call

-- what the contract of the call says of the files
abbrev pub DoesFiles : Policy → Call → Files → Files → Type 0
DoesFiles p (Begin c head) old new = (file_at new c ≡ Some (begins head)) × SameOthers c (file_at old) (file_at new)
DoesFiles p (Resume standing) old new = (file_at new standing.conference ≡ Some (resumes standing)) × SameOthers standing.conference (file_at old) (file_at new)
DoesFiles p (Put c turn) old new = Took (put turn.journal turn.notes) (length turn.journal) (file_at old) (file_at new) c
DoesFiles p (Close c journal) old new = Took (close journal) (length journal) (file_at old) (file_at new) c
DoesFiles p (Answered c change) old new = (file_at new c ≡ option_map (changed p old.table.time change) (file_at old c)) × SameOthers c (file_at old) (file_at new)
DoesFiles p (Read number) old new = SameFiles (file_at old) (file_at new)
DoesFiles p (Next now (Some d)) old new =
    (is_some (conference_of d) ≡ true → Asks p (until_at now old) (file_at old) (file_at new) d) × (conference_of d ≡ None → SameFiles (file_at old) (file_at new))
DoesFiles p (Next now None) old new = SameFiles (file_at old) (file_at new) × (epoch.is_over (epoch_at now old).reading ≡ false → IsDone (passed now old))
DoesFiles p Other old new = SameFiles (file_at old) (file_at new)

-- what it says of the epoch
abbrev pub DoesEpoch : Call → Files → Files → Type 0
DoesEpoch (Begin c head) old new = new.epoch ≡ old.epoch
DoesEpoch (Resume standing) old new = new.epoch ≡ old.epoch
DoesEpoch (Put c turn) old new = new.epoch ≡ old.epoch
DoesEpoch (Close c journal) old new = new.epoch ≡ old.epoch
DoesEpoch (Answered c change) old new = new.epoch ≡ old.epoch
DoesEpoch (Read number) old new = new.epoch ≡ epoch.read old.table.time number old.epoch
DoesEpoch (Next now (Some d)) old new = new.epoch ≡ epoch_behind d (time_at now old) (epoch_at now old)
DoesEpoch (Next now None) old new = new.epoch ≡ epoch.rested (epoch_at now old)
DoesEpoch Other old new = (new.epoch.ours ≡ old.epoch.ours) × (epoch.is_ours new.epoch.reading ≡ true → epoch.is_ours old.epoch.reading ≡ true)

abbrev pub Does : Call → Files → Files → Type 0
Does call old new = (new.table.policy ≡ old.table.policy) × DoesFiles old.table.policy call old new × DoesEpoch call old new

-- these calls, the last of them in front, led from the first value to the last
abbrev pub Calls : List Call → Files → Files → Type 0
Calls [] first last = last ≡ first
Calls (c ∷ earlier) first last = (between : Files) × Calls earlier first between × Does c between last

-- a step of this conference's file, where the call is of it
abbrev pub of_it : Bool → Step → List Step
of_it true step = step ∷ []
of_it false step = []

abbrev pub of_conference : ℕ → Step → Option ℕ → List Step
of_conference c step None = []
of_conference c step (Some k) = of_it (nat_eq k c) step

abbrev pub of_deed : ℕ → ℕ → Option Deed → List Step
of_deed c now None = []
of_deed c now (Some d) = of_conference c (one.Next now) (conference_of d)

-- what the call, made of this value, is to the conference's file
abbrev pub step_of : ℕ → Files → Call → List Step
step_of c old (Begin k head) = []
step_of c old (Resume standing) = []
step_of c old (Put k turn) = of_it (nat_eq k c) (one.Put turn)
step_of c old (Close k journal) = of_it (nat_eq k c) (one.Close journal)
step_of c old (Answered k change) = of_it (nat_eq k c) (one.Answered old.table.time change)
step_of c old (Read number) = []
step_of c old (Next now deed) = of_deed c (until_at now old) deed
step_of c old Other = []

-- what these calls are to it, in order
abbrev pub steps_of : ℕ → (calls : List Call) → (first last : Files) → Calls calls first last → List Step
steps_of c [] first last run = []
steps_of c (call ∷ earlier) first last run = steps_of c earlier first run.0 run.1 ++ step_of c run.0 call

-- the call gives the conference a file
abbrev pub begins_it : ℕ → Call → Bool
begins_it c (Begin k head) = nat_eq k c
begins_it c (Resume standing) = nat_eq standing.conference c
begins_it c (Put k turn) = false
begins_it c (Close k journal) = false
begins_it c (Answered k change) = false
begins_it c (Read number) = false
begins_it c (Next now deed) = false
begins_it c Other = false

-- one of them does
abbrev pub begin_it : ℕ → List Call → Bool
begin_it c [] = false
begin_it c (call ∷ earlier) = begins_it c call || begin_it c earlier

-- an epoch of this number was read since `next` gave nothing last
abbrev pub have_read : ℕ → List Call → Bool
have_read n [] = false
have_read n (Begin c head ∷ earlier) = have_read n earlier
have_read n (Resume standing ∷ earlier) = have_read n earlier
have_read n (Put c turn ∷ earlier) = have_read n earlier
have_read n (Close c journal ∷ earlier) = have_read n earlier
have_read n (Answered c change ∷ earlier) = have_read n earlier
have_read n (Read None ∷ earlier) = have_read n earlier
have_read n (Read (Some number) ∷ earlier) = nat_eq number n || have_read n earlier
have_read n (Next now None ∷ earlier) = false
have_read n (Next now (Some d) ∷ earlier) = have_read n earlier
have_read n (Other ∷ earlier) = have_read n earlier
