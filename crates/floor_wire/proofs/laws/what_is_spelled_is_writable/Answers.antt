use Rattle.floor_wire.proofs.Rewritten.{spelled_writable, canon_len}
use Rattle.floor_wire.proofs.laws.what_is_spelled_is_writable.Goals as goal

pub returns : goal.returns
returns c = record { writable = spelled_writable; length = canon_len }
