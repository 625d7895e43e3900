-- The header by which whoever connects says by a unique-id who it is.
use Rattle.std.specs.Prelude.{ℕ, List, [], ◌∷◌}
use Rattle.floor_proxy.specs.Laws.{Header}

-- no addresses (family 0), and one TLV, the unique-id (05), whose value is the name
abbrev pub by_unique_id : List ℕ → Header
by_unique_id name = record { family = 0; addresses = []; tlvs = record { kind = 0x05; value = name } ∷ [] }
