-- Of which conference something was asked.
use Rattle.std.specs.Prelude.{ℕ, None, Option, Some}
use Rattle.floor_meetings.specs.declared.members.Member.{Member}

-- a member's, where there is one; else the one before
abbrev pub touched_of : Option Member → Option ℕ → Option ℕ
touched_of None other = other
touched_of (Some m) other = Some m.conference
