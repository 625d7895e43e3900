-- Messages to members (RFC 8855, sections 8 and 5.3).
use Rattle.std.specs.Prelude.{ℕ, List}
use Rattle.floor_message.specs.Head.{notice_head}
use Rattle.floor_message.specs.Written.{tell_bytes}
use Rattle.floor_message.specs.declared.head.Head.{Head}
use Rattle.floor_message.specs.declared.tell.Tell.{Tell}

-- a message to a member: what heads it, and what it tells
pub record Outgoing : Type 0 where
  pub head : Head
  pub tell : Tell

-- the bytes of a message
unfoldable pub outgoing_bytes : Outgoing → List ℕ
outgoing_bytes message = tell_bytes message.head message.tell

-- a message that the server starts
abbrev pub notice : ℕ → ℕ → Tell → Outgoing
notice conference user tell = record { head = notice_head conference user; tell = tell }
