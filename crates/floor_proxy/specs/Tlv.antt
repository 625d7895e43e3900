-- TLVs, of which a header has some behind its addresses: a type, the length of a value, and the value (PROXY protocol, section 2.2).
use Rattle.std.specs.Prelude.{ℕ, zero, suc, ◌+◌, ◌*◌, ◌==◌, List, [], ◌∷◌, take, find, Option, Some, None, option_map, Result, Ok, Err}
use Rattle.floor_proxy.specs.declared.refusal.ProxyRefusal.{ProxyRefusal}
use Rattle.floor_proxy.specs.declared.refusal.ProxyRefusal.TheVariants.{BadHeader}

-- a type, and a value
pub record Tlv : Type 0 where
  pub kind : ℕ
  pub value : List ℕ

-- a TLV in front of others
abbrev pub in_front : Tlv → Option (List Tlv) → Option (List Tlv)
in_front tlv others = option_map (λ tlvs. tlv ∷ tlvs) others

-- the TLVs of the bytes behind the first so many, which are of the value before them; None where a TLV passes the end
unfoldable pub tlvs_behind : ℕ → List ℕ → Option (List Tlv)
tlvs_behind zero [] = Some []
tlvs_behind zero (kind ∷ []) = None
tlvs_behind zero (kind ∷ high ∷ []) = None
tlvs_behind zero (kind ∷ high ∷ low ∷ bytes) =
    in_front (record { kind = kind; value = take (256 * high + low) bytes }) (tlvs_behind (256 * high + low) bytes)
tlvs_behind (suc n) [] = None
tlvs_behind (suc n) (byte ∷ bytes) = tlvs_behind n bytes

-- the TLVs that the bytes are, one behind another; None where one passes the end
abbrev pub tlvs : List ℕ → Option (List Tlv)
tlvs bytes = tlvs_behind 0 bytes

-- the value of the first TLV of a type
abbrev pub value_of : ℕ → List Tlv → Option (List ℕ)
value_of kind found = option_map (λ tlv. tlv.value) (find (λ tlv. tlv.kind == kind) found)

-- the same, where the TLVs could be read
abbrev pub value_in : ℕ → Option (List Tlv) → Result (Option (List ℕ)) ProxyRefusal
value_in kind None = Err BadHeader
value_in kind (Some found) = Ok (value_of kind found)
