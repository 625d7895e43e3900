-- The picture of a conference, and what changes it.
use Rattle.std.specs.Prelude.{ℕ, ◌==◌, not, Bool, true, false, if◌then◌else◌, List, [], ◌++◌, filter, Option, Some, None}
use Rattle.floor_room.specs.declared.status.Phase.{Phase}
use Rattle.floor_room.specs.declared.status.Phase.TheVariants as Is
use Rattle.floor_follow.specs.Facts.{is_about, replaced, chaired}
use Rattle.floor_follow.specs.declared.fact.Fact.{Fact}
use Rattle.floor_follow.specs.declared.change.Change.{Change}
use Rattle.floor_follow.specs.declared.change.Change.TheVariants.{About, Chair, Closed, Broken, Nothing}
use Rattle.floor_follow.specs.declared.change.Subject.TheVariants as Of
use Rattle.floor_follow.specs.declared.conference.Conference.{Conference}
use Rattle.floor_follow.specs.declared.conference.Stage.{Stage}
use Rattle.floor_follow.specs.declared.conference.Stage.TheVariants.{Floors, Users, Members, Words, Watch, Followed, Again}

-- what is asked of a conference first: all of one that runs, and nothing of another
abbrev pub first_stage : Phase → Stage
first_stage Is.Running = Floors
first_stage Is.Ended = Followed
first_stage Is.Broken = Followed

-- a conference that is listed for the first time, of which nothing else is known
abbrev pub listed_first : ℕ → Phase → ℕ → Conference
listed_first number phase events =
    record { number = number; phase = phase; events = events; from = 1; stage = first_stage phase; is_listed = true; facts = [] }

-- all was told that is asked of a conference first
abbrev pub is_followed_at : Stage → Bool
is_followed_at Floors = false
is_followed_at Users = false
is_followed_at Members = false
is_followed_at Words = false
is_followed_at Watch = false
is_followed_at Followed = true
is_followed_at Again = true

abbrev pub is_followed : Conference → Bool
is_followed c = is_followed_at c.stage

-- a conference that runs no more has no members and no floor requests
abbrev pub ended : Phase → Conference → Conference
ended phase c = record c { phase = phase; facts = filter (λ fact. not (is_about Of.Live fact)) c.facts }

abbrev pub with_phase : Phase → Conference → Conference
with_phase Is.Running c = c
with_phase Is.Ended c = ended Is.Ended c
with_phase Is.Broken c = ended Is.Broken c

-- a conference that is listed with this phase and so many events: one that doesn't run was ended
abbrev pub listed : Phase → ℕ → Conference → Conference
listed phase events c = with_phase phase (record c { is_listed = true; events = events })

-- what a live line changes
abbrev pub changed : Change → Conference → Conference
changed (About subject facts) c = record c { facts = replaced subject facts c.facts }
changed (Chair floor chair) c = record c { facts = chaired floor chair c.facts }
changed Closed c = ended Is.Ended c
changed Broken c = ended Is.Broken c
changed Nothing c = c

-- the place that an answer says; the first where it says none
abbrev pub place_of : Option ℕ → ℕ
place_of (Some next) = next
place_of None = 1

-- what an answer tells is all that there is of its kind, and then the next is asked
abbrev pub answered_at : Stage → List Fact → Option ℕ → Conference → Conference
answered_at Floors facts next c = record c { facts = replaced Of.Floors facts c.facts; from = place_of next; stage = Users }
answered_at Users facts next c = record c { facts = replaced Of.Users facts c.facts; stage = Members }
answered_at Members facts next c = record c { facts = replaced Of.Members facts c.facts; stage = Words }
answered_at Words facts next c = record c { facts = replaced Of.Words facts c.facts; stage = Watch }
answered_at Watch facts next c = record c { stage = Followed }
answered_at Followed facts next c = record c { stage = Followed }
answered_at Again facts next c = record c { facts = replaced Of.Words facts c.facts; stage = Followed }

abbrev pub answered : List Fact → Option ℕ → Conference → Conference
answered facts next c = answered_at c.stage facts next c

-- a new round asks for the words once more, of a conference that runs and of which all else was told
abbrev pub due_at : Stage → Phase → Stage
due_at Followed Is.Running = Again
due_at stage phase = stage

abbrev pub due : Conference → Conference
due c = record c { stage = due_at c.stage c.phase }
