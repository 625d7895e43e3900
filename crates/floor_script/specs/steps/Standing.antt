-- What the conferences of a script stand for.
use Rattle.std.specs.Prelude.{◌≡◌, ℕ, List, ◌++◌, map, Option, Some, None}
use Rattle.floor_hub.specs.declared.step.Answer.{Answer}
use Rattle.floor_hub.specs.declared.step.Step.TheVariants.{Open}
use Rattle.floor_hub.specs.World.{turn}
use Rattle.floor_config.specs.Configuration.{Configuration}
use Rattle.floor_script.specs.Answered.{behind, carried, emptied, fast_in, pace_answer, text_of, turned}
use Rattle.floor_script.specs.Attached.{PacesIn, conference_at, is_live, live_in}
use Rattle.floor_script.specs.Printed.{due_to, lines_to}
use Rattle.floor_script.specs.State.{State}
use Rattle.floor_script.specs.declared.attached.Live.{Live}
use Rattle.floor_script.specs.declared.attached.Pace.{Pace}
use Rattle.floor_script.specs.declared.conferences.Conferences.{Conferences}
use Rattle.floor_script.specs.declared.line.Command.{Command}
use Rattle.floor_script.specs.declared.waiting.Taken.{Taken}
use Rattle.floor_script.specs.steps.Holding.{Holds}
use Rattle.floor_script.specs.steps.Taking.{ArePlaced}

-- The conferences stand for the state: their hub holds it, and their connections are those of the state.
pub record Stands (conferences : Conferences) (s : State) : Type 0 where
  pub holds : Holds conferences.hub s.world s.printed
  pub conferences_are : conferences.attached.conferences.items ≡ map (λ p. p.conference) s.world.places
  pub lives : (conference : ℕ) → live_in conferences.attached conference ≡ s.lives conference
  pub placed : (conference : ℕ) → ArePlaced s.world.places conference (map (λ live. live.connection) (s.lives conference))

-- From conferences that stand for a state came some that stand for what it becomes.
pub record Leads (becomes : State → State) (old new : Conferences) : Type 0 where
  pub leads : (s : State) → Stands old s → Stands new (becomes s)

-- the state in which the hub was asked to open a conference
abbrev pub opened : Configuration → State → State
opened config s = record { world = (turn s.world (Open config)).world; printed = s.printed; lives = s.lives }

-- A command was carried out, and was answered so.
pub record Carries (command : Command) (answer : Answer) (old new : Conferences) : Type 0 where
  pub leads : (s : State) → Stands old s → Stands new (carried s command)
  pub answered : (s : State) → Stands old s → (turned s command).answer ≡ answer

-- What waits for the connections of a conference was taken and printed.
pub record Prints (conference : Option ℕ) (old new : Conferences) (noted : List Taken) (was is : List ℕ) : Type 0 where
  pub leads : (s : State) → Stands old s → Stands new (emptied (fast_in s conference) s)
  pub noted_is : (s : State) → Stands old s → noted ≡ due_to s.world (fast_in s conference) s.printed
  pub text : (s : State) → Stands old s → is ≡ was ++ lines_to s.world (fast_in s conference) s.printed

-- A command was carried out, and prints this text.
pub record Does (command : Command) (old new : Conferences) (text : List ℕ) : Type 0 where
  pub leads : (s : State) → Stands old s → Stands new (behind s command)
  pub text_is : (s : State) → Stands old s → text ≡ text_of s command

-- The pace of a connection was set, if it is live.
pub record SetsPace (connection : ℕ) (pace : Pace) (answer : Answer) (old new : Conferences) : Type 0 where
  pub hub : new.hub ≡ old.hub
  pub attached : PacesIn (conference_at old.attached connection) connection pace old.attached new.attached
  pub answer_is : answer ≡ pace_answer (is_live old.attached (conference_at old.attached connection) connection)
