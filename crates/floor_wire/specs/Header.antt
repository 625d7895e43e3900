-- The common header (RFC 8855, section 5.1).
use Rattle.std.specs.Prelude.{ℕ, ◌+◌, ◌*◌, ◌/◌, ◌%◌, Bool, List, ◌∷◌, ◌++◌, take, drop, slice_index, ◌==◌}
use Rattle.std.specs.Int.{w16, w32, to_be_bytes}
use Rattle.floor_wire.specs.Message.{number_at}

-- the fields of the common header, in the order of their bits; the Payload Length counts units of 4 bytes
pub record CommonHeader : Type 0 where
  pub version : ℕ
  pub transaction_responder : Bool
  pub fragmentation : Bool
  pub reserved : ℕ
  pub primitive : ℕ
  pub payload_length : ℕ
  pub conference : ℕ
  pub transaction : ℕ
  pub user : ℕ

-- the header of a message: 3 bits of version, the R bit, the F bit and 3 reserved bits, then whole bytes
abbrev pub header_of : List ℕ → CommonHeader
header_of message = record {
  version = slice_index message 0 / 32;
  transaction_responder = slice_index message 0 / 16 % 2 == 1;
  fragmentation = slice_index message 0 / 8 % 2 == 1;
  reserved = slice_index message 0 % 8;
  primitive = slice_index message 1;
  payload_length = number_at message 2;
  conference = 65536 * number_at message 4 + number_at message 6;
  transaction = number_at message 8;
  user = number_at message 10;
}

-- the header that is written: version 1, and the R, F and reserved bits clear
abbrev pub header_bytes : ℕ → ℕ → ℕ → ℕ → ℕ → List ℕ
header_bytes primitive payload_length conference transaction user =
    0x20 ∷ primitive ∷ (to_be_bytes w16 payload_length ++ to_be_bytes w32 conference ++ to_be_bytes w16 transaction ++ to_be_bytes w16 user)

-- a message with another User ID in its header
abbrev pub addressed : List ℕ → ℕ → List ℕ
addressed message user = take 10 message ++ to_be_bytes w16 user ++ drop 12 message
