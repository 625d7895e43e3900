-- The steps by which a value is found.
use Rattle.std.specs.Prelude.{◌≡◌, ℕ, ◌==◌, ◌<◌, cond, List, length, Option, Some, None, Result, Ok, Err}
use Rattle.floor_proxy.specs.declared.refusal.ProxyRefusal.{ProxyRefusal}
use Rattle.floor_proxy.specs.declared.tlv.FirstTlv.{FirstTlv}
use Rattle.floor_proxy.specs.Tlv.{in_front, tlvs}

-- the value that was found, or else that of the TLV, if it has this type
abbrev pub kept : ℕ → Option (List ℕ) → ℕ → List ℕ → Option (List ℕ)
kept kind (Some found) other value = Some found
kept kind None other value = cond (other == kind) (Some value) None

-- what was found, or else what is found in the rest, which has to be read all the same
abbrev pub with_found : Option (List ℕ) → Result (Option (List ℕ)) ProxyRefusal → Result (Option (List ℕ)) ProxyRefusal
with_found found (Err refusal) = Err refusal
with_found None (Ok later) = Ok later
with_found (Some value) (Ok later) = Ok (Some value)

-- the first TLV of the bytes, and the bytes behind it
pub record IsFirst (bytes : List ℕ) (first : FirstTlv) : Type 0 where
  pub whole : tlvs bytes ≡ in_front (record { kind = first.kind; value = first.value.now }) (tlvs first.behind.now)
  pub shorter : length first.behind.now < length bytes
