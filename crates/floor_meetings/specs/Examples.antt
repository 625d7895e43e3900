-- A worked run, computed: of two members in slots 5 and 7 each says Hello, and what the one in slot 5 is told its socket takes in two parts.
use Rattle.std.specs.Prelude.{◌≡◌, List, [], ◌∷◌, ◌++◌, drop, take, Ok}
use Rattle.std.specs.Prelude.{false}
use Rattle.floor_machine.specs.Examples.{demonstration}
use Rattle.floor_machine.specs.declared.act.Act.{Act}
use Rattle.floor_machine.specs.declared.event.Event.TheVariants.{Join as Joined, Message, Took as Takes}
use Rattle.floor_loop.specs.Examples.{answer, hello, other_hello}
use Rattle.floor_loop.specs.Laws.{IsFront}
use Rattle.floor_meetings.specs.Runs.{Call, Acts, Came, Left, Ready, Took, bytes_by}

-- both say Hello; the socket in slot 7 takes something, and that in slot 5 takes 20 bytes of its answer
abbrev pub first_part : List Call
first_part = Came 5 hello (Ok false) ∷ Came 7 other_hello (Ok false) ∷ Ready ∷ Took 7 (take 30 answer) ∷ Took 5 (take 20 answer) ∷ []

-- then conference 2 closes, whoever is in slot 7 leaves, and the socket in slot 5 takes what is left
abbrev pub both_parts : List Call
both_parts = first_part ++ Acts 2 Act.Close ∷ Left 7 0 (Ok false) ∷ Took 5 (drop 20 answer) ∷ []

-- What the socket in slot 5 took is the answer to its Hello, a front of what its conference's floor machine calls for, and nothing of slot 7's.
pub record OneIsWritten : Type 0 where
  pub first : bytes_by 5 first_part ≡ take 20 answer
  pub bytes : bytes_by 5 both_parts ≡ answer
  pub other : bytes_by 7 both_parts ≡ take 30 answer
  pub front : IsFront demonstration (Joined 10 ∷ Message 1 hello ∷ Takes 1 1 ∷ []) 1 (bytes_by 5 both_parts) 1
