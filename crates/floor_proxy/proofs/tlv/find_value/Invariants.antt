use Rattle.std.proofs.Common.{◌≡◌, length}
use Rattle.std.specs.Prelude.{option_map}
use Rattle.floor_proxy.specs.Tlv.{tlvs, value_in}
use Rattle.floor_proxy.specs.steps.Finding.{with_found}
use Rattle.floor_proxy.proofs.tlv.find_value.Given as goal

-- what was found and what the rest has are what all has
abbrev pub invariant-tlv : goal.invariant-tlv
invariant-tlv l = with_found (option_map (λ v. v.now) l.found) (value_in l.kind (tlvs l.rest)) ≡ value_in l.kind (tlvs l.initial.rest)

abbrev pub decreases-tlv : goal.decreases-tlv
decreases-tlv l = length l.rest
