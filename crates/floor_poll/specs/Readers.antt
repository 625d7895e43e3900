-- What a loop tells of a conference, by its room.
use Rattle.std.specs.Prelude.{ℕ, ◌+◌, ◌-◌, ◌/◌, ◌^◌, min, max, List, ◌++◌, length, flat_map, unwrap_or, Option}
use Rattle.std.specs.Option.{option_map}
use Rattle.floor_control.specs.declared.people.MemberLine.{MemberLine}
use Rattle.floor_control.specs.Answer.{end_at}
use Rattle.floor_control.specs.Floors.{floor_line}
use Rattle.floor_control.specs.People.{member_line}
use Rattle.floor_hub.specs.declared.attached.Live.{Live}
use Rattle.floor_hub.specs.Members.{user_of}
use Rattle.floor_loop.specs.Loop.{Loop, stay_at}
use Rattle.floor_room.specs.Ledger.{Ledger}
use Rattle.floor_room.specs.Standing.{backlog_of, config_of, shown_of}

-- the place of the next event, up to the greatest number of 32 bits
abbrev pub next_place : Ledger → ℕ
next_place l = min (length l.journal + 1) (2 ^ 32 - 1)

-- the lines of the floors, with the floor requests that are shown
abbrev pub floors_text : Ledger → List ℕ
floors_text l =
    flat_map (λ f. floor_line f (shown_of l)) (config_of l).floors ++ end_at (length (config_of l).floors) (next_place l)

-- for how many whole seconds a connection has been away at this time, where it is
abbrev pub away_seconds : Loop → ℕ → ℕ → Option ℕ
away_seconds l now number = option_map (λ s. (max l.attended.time now - s.since) / 1000) (stay_at l number)

-- the line of a live connection's member at this time: its user is that of its Join
abbrev pub line_of : Loop → ℕ → Ledger → Live → MemberLine
line_of hub now l one =
    record {
      n = one.n;
      user = unwrap_or (user_of l.journal one.n) 0;
      behind = backlog_of l one.n;
      is_cut = one.is_cut;
      away = away_seconds hub now one.number;
    }

-- the lines of the members of live connections
abbrev pub members_text : Loop → ℕ → Ledger → List Live → List ℕ
members_text hub now l live = flat_map (λ one. member_line (line_of hub now l one)) live ++ end_at (length live) (next_place l)
