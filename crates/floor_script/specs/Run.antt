-- What the run of a text prints, line by line, and whether it is refused.
use Rattle.std.specs.Prelude.{◌≡◌, ℕ, ◌+◌, ◌==◌, Bool, true, false, List, [], ◌∷◌, ◌++◌, codes, Option, Some, None, Result, Ok, Err}
use Rattle.std.specs.Fmt.{decimal}
use Rattle.std.specs.Io.KnownBytes.{Appends}
use Rattle.std.specs.Str.Lines.{lines}
use Rattle.floor_config.specs.Configuration.{Configuration}
use Rattle.floor_config.specs.Demonstration.{demonstration}
use Rattle.floor_config.specs.Names.{name_of}
use Rattle.floor_config.specs.Reading.{reading}
use Rattle.floor_config.specs.declared.fault.ConfigFault.{ConfigFault}
use Rattle.floor_script.specs.Answered.{behind, text_of}
use Rattle.floor_script.specs.Line.{command_of}
use Rattle.floor_script.specs.Names.{name_of_line_fault}
use Rattle.floor_script.specs.Script.{configuration_of, lines_passed, script_of}
use Rattle.floor_script.specs.State.{State, begun}
use Rattle.floor_script.specs.Written.{Began}
use Rattle.floor_script.specs.declared.fault.RunFault.{RunFault}
use Rattle.floor_script.specs.declared.fault.RunFault.TheVariants as run
use Rattle.floor_script.specs.declared.line.Command.{Command}
use Rattle.floor_script.specs.declared.line.LineFault.{LineFault}

-- the line says nothing: it is empty, or begins with `#`
abbrev pub is_silent : List ℕ → Bool
is_silent [] = true
is_silent (first ∷ rest) = first == 35

-- the line of a fault, with the number of the line that has it, or 0 for the configuration
abbrev pub error_line : ℕ → List ℕ → List ℕ
error_line number name = codes "error " ++ (decimal number ++ (codes " " ++ (name ++ codes "\n")))

-- What a line prints, the state behind it, and whether it ends the run, since it asks for nothing.
pub record Said : Type 0 where
  pub text : List ℕ
  pub state : State
  pub is_refused : Bool

abbrev pub said_by : State → ℕ → Result Command LineFault → Said
said_by s number (Ok command) = record { text = text_of s command; state = behind s command; is_refused = false }
said_by s number (Err fault) = record { text = error_line number (name_of_line_fault fault); state = s; is_refused = true }

abbrev pub said_aloud : Bool → State → ℕ → List ℕ → Said
said_aloud true s number line = record { text = []; state = s; is_refused = false }
said_aloud false s number line = said_by s number (command_of line)

-- what the line of this number does
unfoldable pub said : State → ℕ → List ℕ → Said
said s number line = said_aloud (is_silent line) s number line

-- What a run prints, and whether its configuration or a line was refused.
pub record Outcome : Type 0 where
  pub printed : List ℕ
  pub is_refused : Bool

-- a line that is refused is the last; behind another come those below it
abbrev pub behind_line : Bool → List ℕ → Outcome → Outcome
behind_line true text below = record { printed = text; is_refused = true }
behind_line false text below = record { printed = text ++ below.printed; is_refused = below.is_refused }

-- what lines print, of which the first has this number
abbrev pub printed_from : List (List ℕ) → ℕ → State → Outcome
printed_from [] number s = record { printed = []; is_refused = false }
printed_from (line ∷ more) number s = behind_line (said s number line).is_refused (said s number line).text (printed_from more (number + 1) (said s number line).state)

-- the configurations of a text that has some, or the demonstration's
abbrev pub configurations : Option (List ℕ) → Result (List Configuration) ConfigFault
configurations None = Ok (demonstration ∷ [])
configurations (Some text) = reading text

-- what a text prints whose configuration is this: a fault of the configuration, or what its lines print over a hub with these conferences
abbrev pub outcome_with : Result (List Configuration) ConfigFault → List ℕ → Outcome
outcome_with (Ok configs) text = printed_from (lines (script_of text)) (lines_passed text + 1) (begun configs)
outcome_with (Err fault) text = record { printed = error_line 0 (name_of fault); is_refused = true }

-- what a text prints, and whether it is refused
unfoldable pub outcome_of : List ℕ → Outcome
outcome_of text = outcome_with (configurations (configuration_of text)) text

-- All that a text prints was printed: to its end, or to what is refused of it.
pub record Ran (text : List ℕ) (is_refused : Bool) (was is : Option (List ℕ)) : Type 0 where
  pub refused : (outcome_of text).is_refused ≡ is_refused
  pub printed : Appends was is (outcome_of text).printed

-- what a run leaves that ended by this fault: all is printed where it refused something, and else a beginning; a text that was read ends by no read fault
abbrev pub Leaves : RunFault → List ℕ → Option (List ℕ) → Option (List ℕ) → Type 0
Leaves run.Refused text was is = Ran text true was is
Leaves run.CannotRead text was is = ⊥
Leaves run.CannotWrite text was is = Began was is (outcome_of text).printed
Leaves run.Memory text was is = Began was is (outcome_of text).printed
