-- What the command of a line does, what it is answered, and what is printed behind it.
use Rattle.std.specs.Prelude.{ℕ, zero, suc, Bool, not, List, [], ◌∷◌, ◌++◌, map, filter, codes, Option, Some, None, if◌then◌else◌}
use Rattle.std.specs.Fmt.{decimal}
use Rattle.hex.specs.Hex.{encode_lower}
use Rattle.floor_hub.specs.declared.refusal.HubRefusal.TheVariants.{NoConnection}
use Rattle.floor_hub.specs.declared.step.Answer.{Answer}
use Rattle.floor_hub.specs.declared.step.Answer.TheVariants.{Done, Attached as HasAttached, Nothing, Served, Said, Refused}
use Rattle.floor_hub.specs.declared.step.Step.TheVariants as step
use Rattle.floor_hub.specs.Names.{name_of}
use Rattle.floor_hub.specs.World.{Turn, World, turn}
use Rattle.floor_script.specs.Attached.{is_numbered, paced}
use Rattle.floor_script.specs.Printed.{acknowledged, due_to, fast_of, lines_to, printed_to}
use Rattle.floor_script.specs.State.{State, changed_lives, conference_at, is_live_in, most_at_once, with_lives}
use Rattle.floor_script.specs.declared.attached.Live.{Live}
use Rattle.floor_script.specs.declared.attached.Pace.TheVariants as pace
use Rattle.floor_script.specs.declared.line.Command.{Command}
use Rattle.floor_script.specs.declared.line.Command.TheVariants.{Attach, Piece, Serve, Send, Leave, Slow, Fast, Admin, Say}
use Rattle.floor_script.specs.declared.waiting.Taken.{Taken}

-- after a message that was served the next ones are; a refusal is the answer
abbrev pub serves_on : Answer → World → (World → Turn) → Turn
serves_on Served w next = next w
serves_on Nothing w next = record { world = w; answer = Done }
serves_on Done w next = record { world = w; answer = Done }
serves_on (HasAttached number) w next = record { world = w; answer = Done }
serves_on (Said said) w next = record { world = w; answer = Done }
serves_on (Refused refusal) w next = record { world = w; answer = Refused refusal }

-- the messages of a connection that are whole are served, one after another, at most so many
unfoldable pub serve_all : ℕ → ℕ → World → Turn
serve_all zero connection w = record { world = w; answer = Done }
serve_all (suc more) connection w = serves_on (turn w (step.Serve connection)).answer (turn w (step.Serve connection)).world (λ next. serve_all more connection next)

-- bytes that were taken are served
abbrev pub serves_taken : Answer → ℕ → World → Turn
serves_taken Done connection w = serve_all most_at_once connection w
serves_taken answer connection w = record { world = w; answer = answer }

-- bytes come, and what is whole with them is served
abbrev pub send : ℕ → List ℕ → World → Turn
send connection bytes w = serves_taken (turn w (step.Piece connection bytes)).answer connection (turn w (step.Piece connection bytes)).world

-- what a change of a connection's pace is answered
abbrev pub pace_answer : Bool → Answer
pace_answer live = if live then Done else Refused NoConnection

-- what a command is answered by the hub, and the world behind it; the pace of a connection is the script's own
abbrev pub turned : State → Command → Turn
turned s (Attach conference user) = turn s.world (step.Attach conference user)
turned s (Piece connection bytes) = turn s.world (step.Piece connection bytes)
turned s (Serve connection) = turn s.world (step.Serve connection)
turned s (Send connection bytes) = send connection bytes s.world
turned s (Leave connection) = turn s.world (step.Leave connection)
turned s (Slow connection) = record { world = s.world; answer = pace_answer (is_live_in s.lives (conference_at s connection) connection) }
turned s (Fast connection) = record { world = s.world; answer = pace_answer (is_live_in s.lives (conference_at s connection) connection) }
turned s (Admin conference act) = turn s.world (step.Admin conference act)
turned s (Say conference user message) = turn s.world (step.Say conference user message)

-- who is live behind a command with this answer: one that was attached is, and fast; one that has left is not
abbrev pub lives_behind : State → Command → Answer → ℕ → List Live
lives_behind s (Attach conference user) (HasAttached number) =
    with_lives s.lives conference (s.lives conference ++ record { connection = number; pace = pace.Fast } ∷ [])
lives_behind s (Leave connection) Done = changed_lives (filter (λ live. not (is_numbered connection live))) (conference_at s connection) s.lives
lives_behind s (Slow connection) answer = changed_lives (map (paced connection pace.Slow)) (conference_at s connection) s.lives
lives_behind s (Fast connection) answer = changed_lives (map (paced connection pace.Fast)) (conference_at s connection) s.lives
lives_behind s command answer = s.lives

-- the state in which a command was carried out, and nothing is printed yet of what waits
abbrev pub carried : State → Command → State
carried s command = record { world = (turned s command).world; printed = s.printed; lives = lives_behind s command (turned s command).answer }

-- the line of a message that was said: what answers it, where something does
abbrev pub said_line : Option (List ℕ) → List ℕ
said_line None = []
said_line (Some message) = codes "said " ++ (encode_lower message ++ codes "\n")

-- the line of an answer, where it has one
abbrev pub answer_line : Answer → List ℕ
answer_line (HasAttached number) = codes "attached " ++ (decimal number ++ codes "\n")
answer_line Nothing = codes "nothing\n"
answer_line (Refused refusal) = codes "refused " ++ (name_of refusal ++ codes "\n")
answer_line Done = []
answer_line Served = []
answer_line (Said said) = said_line said.reply

-- the conference that a command is about: no other one's connections are printed anything
abbrev pub conference_of : State → Command → Option ℕ
conference_of s (Attach conference user) = Some conference
conference_of s (Admin conference act) = Some conference
conference_of s (Say conference user message) = Some conference
conference_of s (Piece connection bytes) = conference_at s connection
conference_of s (Serve connection) = conference_at s connection
conference_of s (Send connection bytes) = conference_at s connection
conference_of s (Leave connection) = conference_at s connection
conference_of s (Slow connection) = conference_at s connection
conference_of s (Fast connection) = conference_at s connection

-- the live connections of a conference that aren't slow
abbrev pub fast_in : State → Option ℕ → List ℕ
fast_in s None = []
fast_in s (Some conference) = fast_of (s.lives conference)

-- the state in which what waits for these connections was printed
abbrev pub emptied : List ℕ → State → State
emptied connections s = record { world = s.world; printed = printed_to s.world connections s.printed; lives = s.lives }

-- the state in which so much was acknowledged
abbrev pub told : List Taken → State → State
told taken s = record { world = acknowledged taken s.world; printed = s.printed; lives = s.lives }

-- the connections that are printed to behind a command
abbrev pub readers : State → Command → List ℕ
readers s command = fast_in (carried s command) (conference_of s command)

-- what a command prints: the line of its answer, and then what waits for those connections
abbrev pub text_of : State → Command → List ℕ
text_of s command = answer_line (turned s command).answer ++ lines_to (carried s command).world (readers s command) s.printed

-- the state behind a command: what was printed behind it is acknowledged
abbrev pub behind : State → Command → State
behind s command =
    told (due_to (carried s command).world (readers s command) s.printed) (emptied (readers s command) (carried s command))
