use Rattle.std.proofs.Common.{◌∙◌, sym, ap, arith}
use Rattle.floor_wire.specs.Held.{counted, octets_held}
use Rattle.floor_wire.proofs.Counted.{front_of_a_count}
use Rattle.floor_wire.proofs.octets.Octets.as_slice.Goals as goal

-- src/octets.rt:73:5
pub returns-in-UpTo : goal.returns-in-UpTo
unfolding counted
returns-in-UpTo c = front_of_a_count c.in-UpTo.last 255 1 (omega arith) ∙ sym (ap octets_held c.in-UpTo.is) ∙ c.self.view_is
