-- A worked run, computed: what is watched of two users who ask for one floor, one after another.
use Rattle.std.specs.Prelude.{◌≡◌, ℕ, List, [], ◌∷◌, ◌++◌, codes, refl}
use Rattle.std.specs.Fmt.{decimal, digits}
use Rattle.floor_wire.specs.Spelled.{spelled, spelled_within}
use Rattle.floor_message.specs.Ask.{ask}
use Rattle.floor_machine.specs.Examples.{demonstration}
use Rattle.floor_machine.specs.declared.event.Event.{Event}
use Rattle.floor_machine.specs.declared.event.Event.TheVariants.{Join, Message, Leave, Close}
use Rattle.floor_machine.specs.Shown.{info_of}
use Rattle.floor_machine.specs.Same.{same_info}
use Rattle.floor_machine.specs.Checks.{refusal}
use Rattle.floor_machine.specs.Change.{change, shown, settled}
use Rattle.floor_machine.specs.Outgoing.{outgoing_bytes}
use Rattle.floor_machine.specs.Reply.{reply}
use Rattle.floor_machine.specs.Told.{changed_requests, changed_floors, due}
use Rattle.floor_machine.specs.Next.{next, told}
use Rattle.floor_control.specs.Watcher.{watched_whole}

-- users 10 and 11 join and ask for floor 1; user 10 says Hello, gives the floor back, user 11 leaves, and the conference is closed
abbrev pub events : List Event
events =
    Join 10
    ∷ Message 1 (0x20 ∷ 0x01 ∷ 0x00 ∷ 0x01 ∷ 0x00 ∷ 0x00 ∷ 0x00 ∷ 0x01 ∷ 0x00 ∷ 0x01 ∷ 0x00 ∷ 0x0a ∷ 0x04 ∷ 0x04 ∷ 0x00 ∷ 0x01 ∷ [])
    ∷ Join 11
    ∷ Message 2 (0x20 ∷ 0x01 ∷ 0x00 ∷ 0x01 ∷ 0x00 ∷ 0x00 ∷ 0x00 ∷ 0x01 ∷ 0x00 ∷ 0x01 ∷ 0x00 ∷ 0x0b ∷ 0x04 ∷ 0x04 ∷ 0x00 ∷ 0x01 ∷ [])
    ∷ Message 1 (0x20 ∷ 0x0b ∷ 0x00 ∷ 0x00 ∷ 0x00 ∷ 0x00 ∷ 0x00 ∷ 0x01 ∷ 0x00 ∷ 0x02 ∷ 0x00 ∷ 0x0a ∷ [])
    ∷ Message 1 (0x20 ∷ 0x02 ∷ 0x00 ∷ 0x01 ∷ 0x00 ∷ 0x00 ∷ 0x00 ∷ 0x01 ∷ 0x00 ∷ 0x03 ∷ 0x00 ∷ 0x0a ∷ 0x06 ∷ 0x04 ∷ 0x00 ∷ 0x01 ∷ [])
    ∷ Leave 2
    ∷ Close
    ∷ []

-- the Hello, at place 5, shows nothing
abbrev pub RunIsWatched : Type 0
RunIsWatched = watched_whole demonstration events ≡
    codes "! 1 1 joined 1 user 10\n! 1 1 .\n"
    ++ codes "! 1 2 request 1 user 10 Granted:0 floors 1 reason -\n! 1 2 .\n"
    ++ codes "! 1 3 joined 2 user 11\n! 1 3 .\n"
    ++ codes "! 1 4 request 2 user 11 Accepted:1 floors 1 reason -\n! 1 4 .\n"
    ++ codes "! 1 6 request 1 user 10 Released:0 floors 1 reason -\n! 1 6 request 2 user 11 Granted:0 floors 1 reason -\n! 1 6 .\n"
    ++ codes "! 1 7 left 2 user 11\n! 1 7 request 2 user 11 Released:0 floors 1 reason -\n! 1 7 .\n"
    ++ codes "! 1 8 closed\n! 1 8 .\n"

pub run_is_watched : RunIsWatched
unfolding ask spelled spelled_within outgoing_bytes info_of same_info refusal change shown settled reply changed_requests changed_floors due told next digits
run_is_watched = refl
