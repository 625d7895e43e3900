-- The laws of worlds: what holds of each world and step, and of every list of steps.
use Rattle.std.specs.Prelude.{◌≡◌, ℕ, ◌≤◌, List, [], ◌∷◌, ◌++◌, Some, None, length, map}
use Rattle.floor_config.specs.Configuration.{Configuration}
use Rattle.floor_machine.specs.declared.event.Event.{Event}
use Rattle.floor_machine.specs.Journal.{IsJournal, Q, after}
use Rattle.floor_hub.specs.declared.step.Step.{Step}
use Rattle.floor_hub.specs.declared.step.Step.TheVariants.{Open, Attach, Piece, Serve, Took, Leave, Admin, Say}
use Rattle.floor_hub.specs.declared.transcript.Transcript.{Transcript}
use Rattle.floor_hub.specs.World.{IsIdle, Part, World, nothing, state_of, turn}
use Rattle.floor_hub.specs.Kept.{IsKept, IsNumbered, first_numbers, joins}
use Rattle.floor_hub.specs.Runs.{IsRunOf, added, alone, answers, answers_to, called_for, configuration, events, queued, queued_in, resuming_of, run, steps_of}

-- a step of a kept world leaves a kept world
abbrev pub StepKeeps : Type 0
StepKeeps = (w : World) (s : Step) → IsKept w → IsKept (turn w s).world

-- the events that steps give a conference are a journal of its configuration
abbrev pub EventsAreAJournal : Type 0
EventsAreAJournal = (c : ℕ) (config : Configuration) (steps : List Step) → configuration c steps ≡ Some config → IsJournal config (events c steps)

-- a further step adds to the events of a conference what its answer says, and nothing else
abbrev pub StepAdds : Type 0
StepAdds = (c : ℕ) (steps : List Step) (s : Step) → events c (steps ++ s ∷ []) ≡ events c steps ++ added c (run nothing steps) s

-- a further step leaves the configuration of a conference that is opened
abbrev pub ConfigurationStays : Type 0
ConfigurationStays = (c : ℕ) (config : Configuration) (steps : List Step) (s : Step) →
    configuration c steps ≡ Some config → configuration c (steps ++ s ∷ []) ≡ Some config

-- a step that is refused, or that finds no message, changes nothing
abbrev pub IdleStays : Type 0
IdleStays = (w : World) (s : Step) → IsIdle (turn w s).answer →
    ((c : ℕ) → (turn w s).world.parts c ≡ w.parts c) × ((turn w s).world.places ≡ w.places)

-- each journal of a configuration is the events of its own steps
abbrev pub JournalsAreEvents : Type 0
JournalsAreEvents = (config : Configuration) (es : List Event) → IsJournal config es → events config.conference (steps_of config es) ≡ es

-- and those steps give its conference that configuration
abbrev pub JournalsAreOpened : Type 0
JournalsAreOpened = (config : Configuration) (es : List Event) → IsJournal config es →
    configuration config.conference (steps_of config es) ≡ Some config

-- and queue what the journal calls for, at each n
abbrev pub JournalsAreQueued : Type 0
JournalsAreQueued = (config : Configuration) (es : List Event) → IsJournal config es →
    (n : ℕ) → queued config.conference (steps_of config es) n ≡ Q config es n

-- The world has a conference that opened with this configuration, in which these events happened: its state is the machine's after them.
pub record IsResumed (config : Configuration) (es : List Event) (w : World) : Type 0 where
  pub part : Part
  pub there : w.parts config.conference ≡ Some part
  pub opening : part.config ≡ config
  pub events : part.events ≡ es
  pub state : state_of part ≡ after config es

-- in a world without the conference each journal is resumed by its own steps, behind all arrivals that were there
abbrev pub JournalsAreResumed : Type 0
JournalsAreResumed = (w : World) (config : Configuration) (es : List Event) → w.parts config.conference ≡ None → IsJournal config es →
    IsResumed config es (run w (resuming_of (length w.places) config es))

-- a conference has the same events alone
abbrev pub EventsAlone : Type 0
EventsAlone = (c : ℕ) (steps : List Step) → events c (alone c steps) ≡ events c steps

-- the steps of a conference have the same answers alone, but for the arrivals' numbers, which are n
abbrev pub AnswersAlone : Type 0
AnswersAlone = (c : ℕ) (steps : List Step) → answers nothing (alone c steps) ≡ answers_to c nothing steps

-- alone, the number of each arrival is its n, from 1 on
abbrev pub NumbersAlone : Type 0
NumbersAlone = (c : ℕ) (steps : List Step) →
    (run nothing (alone c steps)).places ≡ map (λ n. record { conference = c; n = n }) (first_numbers (joins (events c steps)))

-- what steps queue to n of a conference is what its events call for at n
abbrev pub QueuedIsCalledFor : Type 0
QueuedIsCalledFor = (c : ℕ) (config : Configuration) (steps : List Step) → configuration c steps ≡ Some config →
    (n : ℕ) → queued c steps n ≡ Q config (events c steps) n

-- the two lists of steps give the conference c this configuration and the same events
pub record GiveAlike (c : ℕ) (config : Configuration) (steps others : List Step) : Type 0 where
  pub first : configuration c steps ≡ Some config
  pub second : configuration c others ≡ Some config
  pub events : events c steps ≡ events c others

-- two worlds that give a conference one configuration and the same events queue equal bytes to each n of it
abbrev pub TwoWorlds : Type 0
TwoWorlds = (c : ℕ) (config : Configuration) (steps others : List Step) → GiveAlike c config steps others →
    (n : ℕ) → queued c steps n ≡ queued c others n

-- the step opens no conference but one with an id of 32 bits
abbrev pub OpensNumbered : Step → Type 0
OpensNumbered (Open config) = config.conference ≤ 4294967295
OpensNumbered (Attach c user) = Unit {0}
OpensNumbered (Piece number bytes) = Unit {0}
OpensNumbered (Serve number) = Unit {0}
OpensNumbered (Took number k) = Unit {0}
OpensNumbered (Leave number) = Unit {0}
OpensNumbered (Admin c act) = Unit {0}
OpensNumbered (Say c user bytes) = Unit {0}

-- such a step leaves a world whose conferences have ids of 32 bits
abbrev pub StepNumbers : Type 0
StepNumbers = (w : World) (s : Step) → OpensNumbered s → IsNumbered w → IsNumbered (turn w s).world

-- a kept world of such conferences has at most 2,000,000 arrivals for each id, so that their numbers fit 64 bits
abbrev pub ArrivalsFit : Type 0
ArrivalsFit = (w : World) → IsKept w → IsNumbered w → length w.places ≤ 8589934592000000

-- The headline. Where two interleavings give a conference one configuration and the same events, their runs have queued the same
-- bytes to each of its connections, and these are what its floor machine alone calls for, whatever else went on.
abbrev pub Headline : Type 0
Headline = (c : ℕ) (config : Configuration) (steps others : List Step) (t u : Transcript) →
    IsRunOf steps t → IsRunOf others u → GiveAlike c config steps others →
    (queued_in c t.queued ≡ queued_in c u.queued) × (queued_in c t.queued ≡ called_for config (events c steps))
