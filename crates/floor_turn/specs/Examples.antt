-- A worked run, computed: of two members at sockets 5 and 7 each says Hello, and what the one at socket 5 is told it takes in two parts.
use Rattle.std.specs.Prelude.{◌≡◌, List, [], ◌∷◌, ◌++◌, drop, take}
use Rattle.floor_machine.specs.Examples.{demonstration}
use Rattle.floor_machine.specs.declared.event.Event.TheVariants.{Join as Joined, Message, Took as Takes}
use Rattle.floor_loop.specs.Examples.{answer, hello}
use Rattle.floor_loop.specs.Laws.{IsFront}
use Rattle.floor_turn.specs.Runs.{Call, Other, Took, bytes_by}

-- both say Hello; socket 7 takes something, and socket 5 takes 20 bytes of its answer
abbrev pub first_part : List Call
first_part = Other ∷ Other ∷ Other ∷ Took 7 (take 30 answer) ∷ Took 5 (take 20 answer) ∷ []

-- then something else is called, and socket 5 takes what is left
abbrev pub both_parts : List Call
both_parts = first_part ++ Other ∷ Other ∷ Took 5 (drop 20 answer) ∷ []

-- What socket 5 took is the answer to its Hello, a front of what its conference's floor machine calls for, and nothing of socket 7's.
pub record OneIsWritten : Type 0 where
  pub first : bytes_by 5 first_part ≡ take 20 answer
  pub bytes : bytes_by 5 both_parts ≡ answer
  pub other : bytes_by 7 both_parts ≡ take 30 answer
  pub front : IsFront demonstration (Joined 10 ∷ Message 1 hello ∷ Takes 1 1 ∷ []) 1 (bytes_by 5 both_parts) 1
