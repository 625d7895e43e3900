-- What an event tells each member, and the conference after it. A member is told all that is due to it, or nothing: nothing where it
-- would come to be more than 1,024 messages behind, and then it is cut.
use Rattle.std.specs.Prelude.{ℕ, ◌+◌, ◌&&◌, ◌||◌, nat_le, not, if◌then◌else◌, Bool, true, false, List, [], ◌∷◌, length, map}
use Rattle.floor_machine.specs.declared.member.Member.{Member}
use Rattle.floor_machine.specs.Conference.{Conference, backlog, is_cut}
use Rattle.floor_machine.specs.declared.event.Event.{Event}
use Rattle.floor_machine.specs.Change.{settled}
use Rattle.floor_machine.specs.Outgoing.{Outgoing}
use Rattle.floor_machine.specs.Told.{due}

-- the most messages that were told to a member and not acknowledged
abbrev pub MAX_BACKLOG : ℕ
MAX_BACKLOG = 1024

-- n isn't cut, and with all that is due to it is no further behind than that
abbrev pub keeps_up : Conference → Event → ℕ → Bool
keeps_up s e n = not (is_cut s n) && nat_le (backlog s n + length (due s e n)) MAX_BACKLOG

-- what an event tells n
unfoldable pub told : Conference → Event → ℕ → List Outgoing
told s e n = if keeps_up s e n then due s e n else []

-- there is nothing
abbrev pub is_nothing : {A : Type 0} → List A → Bool
is_nothing [] = true
is_nothing (x ∷ xs) = false

-- a member after an event has told it its messages: it is cut where it was, and where some were due to it and none are told
abbrev pub counted : Conference → Event → Member → Member
counted s e m =
    record m {
      backlog = m.backlog + length (told s e m.n);
      is_cut = m.is_cut || not (is_nothing (due s e m.n)) && is_nothing (told s e m.n);
    }

-- the conference after an event: settled, and what was told is counted
unfoldable pub next : Conference → Event → Conference
next s e = record (settled s e) { members = map (counted s e) (settled s e).members }
