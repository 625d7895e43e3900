-- How much the members of a conference have sent, and when the log is told of it.
use Rattle.std.specs.Prelude.{◌≡◌, ◌<◌, ◌≤◌, ◌+◌, ◌*◌, ◌%◌, ℕ, min}
use Rattle.std.specs.Option.{option_map_or}
use Rattle.floor_connections.specs.declared.conferences.Conferences.{Conferences}
use Rattle.floor_connections.specs.Conferences.{conference_at}

-- how many bytes its members have sent
abbrev pub received : Conferences → ℕ → ℕ
received cs conference = option_map_or (λ c. c.received) (conference_at cs conference) 0

-- so many more, as far as they can be counted
abbrev pub more_received : ℕ → ℕ → ℕ
more_received count before = min (before + count) 18446744073709551615

-- The members of each conference have sent as much.
abbrev pub SameReceived : Conferences → Conferences → Type 0
SameReceived old new = (conference : ℕ) → received new conference ≡ received old conference

-- So many megabytes are the last hundred that was reached, and it wasn't reached before.
pub record IsReached (before after megabytes : ℕ) : Type 0 where
  pub hundreds : megabytes % 100 ≡ 0
  pub late : before < megabytes * 1000000
  pub reached : megabytes * 1000000 ≤ after
  pub last : after < (megabytes + 100) * 1000000

-- No hundred megabytes were reached that weren't before.
abbrev pub NoneIsReached : ℕ → ℕ → Type 0
NoneIsReached before after = (megabytes : ℕ) → megabytes % 100 ≡ 0 → before < megabytes * 1000000 → after < megabytes * 1000000
