-- A desk, a seat, and what takes the parcels of a member.
use Rattle.std.specs.Prelude.{ℕ, List}
use Rattle.floor_outbox.specs.Ends.{Taker}
use Rattle.floor_serve.specs.declared.seat.Sent.{Sent}

-- the conference of a desk
pub record Desk : Type 0 where
  pub conference : ℕ

-- a member of a conference, and the messages that were taken of it, each with its place in the journal
pub record Seat : Type 0 where
  pub conference : ℕ
  pub n : ℕ
  pub sent : List Sent

-- what takes the parcels of a member: its conference, its number, and the taker of its outbox
pub record MemberTaker : Type 0 where
  pub conference : ℕ
  pub n : ℕ
  pub taker : Taker
