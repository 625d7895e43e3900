use Rattle.floor_wire.specs.Spelling.{canon}
use Rattle.floor_wire.proofs.Built.{canon_aligned}
use Rattle.floor_wire.proofs.Writing.{IsMessage-header_bytes}
use Rattle.floor_wire.proofs.laws.what_is_written_is_a_message.Goals as goal

pub returns : goal.returns
returns c = λ primitive conference transaction user a fits.
    IsMessage-header_bytes primitive conference transaction user (canon a) (canon_aligned a) fits
