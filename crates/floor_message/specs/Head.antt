-- What heads a message from the server (RFC 8855, sections 8.1 and 8.2).
use Rattle.std.specs.Prelude.{ℕ, List}
use Rattle.floor_wire.specs.Header.{header_of}
use Rattle.floor_message.specs.declared.head.Head.{Head}

-- the head of a response: the ids of the message that it answers (section 8.1)
abbrev pub response_head : List ℕ → Head
response_head bytes =
    record {
      conference = (header_of bytes).conference;
      transaction = (header_of bytes).transaction;
      user = (header_of bytes).user;
    }

-- the head of a message that the server starts: Transaction ID 0, and the receiver's User ID (section 8.2)
abbrev pub notice_head : ℕ → ℕ → Head
notice_head conference user = record { conference = conference; transaction = 0; user = user }
