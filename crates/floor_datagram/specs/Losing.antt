-- When a peer is lost (RFC 8855, section 8.3.1).
use Rattle.std.specs.Prelude.{◌≡◌, ℕ, ◌*◌, ◌-◌, ◌≤◌, Option, Some, None}
use Rattle.floor_datagram.specs.Notices.{Out}
use Rattle.floor_datagram.specs.Session.{Session}
use Rattle.floor_datagram.specs.Run.{Input, datagram, piece, ends, shut, lost, late}
use Rattle.floor_datagram.specs.declared.end.End.TheVariants as Why

-- the notice that is out was sent four times, and 15 times its retransmission timer are over since it was sent first
abbrev pub IsOverdue : Option Out → (now : ℕ) → Type 0
IsOverdue None now = ⊥
IsOverdue (Some o) now = (o.tries ≡ 4) × (15 * o.t1 ≤ now - o.first)

-- the peer is lost by this input: nobody acknowledged, or the caller says that it is
abbrev pub Loses : Session → Input → Type 0
Loses s (datagram waiting now d) = ⊥
Loses s (piece now p) = ⊥
Loses s (ends now) = ⊥
Loses s (shut end now) = end ≡ Why.Lost
Loses s (lost end now) = end ≡ Why.Lost
Loses s (late now) = IsOverdue s.notices.out now
