-- A worked run, computed: a loop of two conferences, in which a Hello is served, its answer is written in two parts, and then acknowledged.
use Rattle.std.specs.Prelude.{◌≡◌, ℕ, List, [], ◌∷◌, ◌++◌, drop, take, refl}
use Rattle.floor_wire.specs.Message.{messages, messages_of_at_most}
use Rattle.floor_wire.specs.Spelled.{spelled, spelled_within}
use Rattle.floor_message.specs.Ask.{ask}
use Rattle.floor_machine.specs.Examples.{demonstration}
use Rattle.floor_machine.specs.declared.act.Act.{Act}
use Rattle.floor_machine.specs.declared.event.Event.TheVariants.{Join, Message, Took as Takes}
use Rattle.floor_machine.specs.Shown.{info_of}
use Rattle.floor_machine.specs.Same.{same_info}
use Rattle.floor_machine.specs.Checks.{refusal}
use Rattle.floor_machine.specs.Change.{change, shown, settled}
use Rattle.floor_machine.specs.Outgoing.{outgoing_bytes}
use Rattle.floor_machine.specs.Reply.{reply}
use Rattle.floor_machine.specs.Told.{changed_requests, changed_floors, due}
use Rattle.floor_machine.specs.Next.{next, told}
use Rattle.floor_machine.specs.Journal.{parcels_of}
use Rattle.floor_hub.specs.declared.step.Step.{Step}
use Rattle.floor_hub.specs.declared.step.Step.TheVariants.{Open, Attach, Piece, Serve, Took, Admin}
use Rattle.floor_hub.specs.Runs.{alone, events}
use Rattle.floor_loop.specs.Laws.{Call, IsFront, bytes_by, parcels_by, steps_of}

-- user 10 says Hello in conference 1, and user 11 in conference 2
abbrev pub hello : List ℕ
hello = 0x20 ∷ 0x0b ∷ 0x00 ∷ 0x00 ∷ 0x00 ∷ 0x00 ∷ 0x00 ∷ 0x01 ∷ 0x00 ∷ 0x01 ∷ 0x00 ∷ 0x0a ∷ []

abbrev pub other_hello : List ℕ
other_hello = 0x20 ∷ 0x0b ∷ 0x00 ∷ 0x00 ∷ 0x00 ∷ 0x00 ∷ 0x00 ∷ 0x02 ∷ 0x00 ∷ 0x01 ∷ 0x00 ∷ 0x0b ∷ []

-- the answer to the first: which primitives and attributes are supported
abbrev pub answer : List ℕ
answer = 0x20 ∷ 0x0c ∷ 0x00 ∷ 0x09 ∷ 0x00 ∷ 0x00 ∷ 0x00 ∷ 0x01 ∷ 0x00 ∷ 0x01 ∷ 0x00 ∷ 0x0a ∷ 0x16 ∷ 0x0f ∷ 0x01 ∷ 0x02 ∷ 0x03 ∷ 0x04 ∷ 0x05 ∷ 0x06 ∷ 0x07 ∷ 0x08 ∷ 0x09 ∷ 0x0a ∷ 0x0b ∷ 0x0c ∷ 0x0d ∷ 0x00 ∷ 0x14 ∷ 0x14 ∷ 0x02 ∷ 0x04 ∷ 0x06 ∷ 0x08 ∷ 0x0a ∷ 0x0c ∷ 0x0e ∷ 0x10 ∷ 0x12 ∷ 0x14 ∷ 0x16 ∷ 0x18 ∷ 0x1a ∷ 0x1c ∷ 0x1e ∷ 0x20 ∷ 0x22 ∷ 0x24 ∷ []

-- two conferences with a connection each: that of conference 1 came second, and has the number 2
abbrev pub before : List Step
before = Open demonstration ∷ Open (record demonstration { conference = 2 }) ∷ Attach 2 11 ∷ Attach 1 10 ∷ []

-- a call that wrote nothing
abbrev quiet : List Step → Call
quiet steps = record { steps = steps; number = 2; bytes = []; parcels = 0 }

-- both Hellos are read; of the answer its socket takes 20 bytes, which ends no parcel
abbrev pub first_part : List Call
first_part = quiet (Piece 2 hello ∷ Serve 2 ∷ []) ∷ quiet (Piece 1 other_hello ∷ Serve 1 ∷ []) ∷ quiet [] ∷ record { steps = []; number = 2; bytes = take 20 answer; parcels = 0 } ∷ []

-- then conference 2 closes, and the socket takes what is left, by which the parcel is acknowledged
abbrev pub both_parts : List Call
both_parts = first_part ++ quiet (Admin 2 Act.Close ∷ []) ∷ record { steps = Took 2 1 ∷ []; number = 2; bytes = drop 20 answer; parcels = 1 } ∷ []

-- what conference 1 has of it alone, and that what was written is a front of what its floor machine calls for
pub record HelloIsWritten : Type 0 where
  pub alone : alone 1 (before ++ steps_of both_parts) ≡ Open demonstration ∷ Attach 1 10 ∷ Piece 1 hello ∷ Serve 1 ∷ Took 1 1 ∷ []
  pub events : events 1 (before ++ steps_of both_parts) ≡ Join 10 ∷ Message 1 hello ∷ Takes 1 1 ∷ []
  pub first : IsFront demonstration (Join 10 ∷ Message 1 hello ∷ []) 1 (bytes_by 2 first_part) (parcels_by 2 first_part)
  pub bytes : bytes_by 2 both_parts ≡ answer
  pub both : IsFront demonstration (Join 10 ∷ Message 1 hello ∷ Takes 1 1 ∷ []) 1 (bytes_by 2 both_parts) (parcels_by 2 both_parts)

pub hello_is_written : HelloIsWritten
unfolding ask spelled spelled_within outgoing_bytes info_of same_info refusal change shown settled reply changed_requests changed_floors due told next parcels_of messages messages_of_at_most
hello_is_written = record {
  alone = refl;
  events = refl;
  first = record { more = drop 20 answer; front = refl; later = take 20 answer; whole = refl };
  bytes = refl;
  both = record { more = []; front = refl; later = []; whole = refl };
}
