-- What is written is read, and how much of it has come makes no difference.
use Rattle.std.specs.Prelude.{◌≡◌, ◌≢◌, ◌↔◌, ℕ, ◌+◌, ◌/◌, ◌%◌, ◌<◌, ◌≤◌, ◌^◌, List, ◌∷◌, ◌++◌, length, flat_map, Some, Result, Ok, Err}
use Rattle.std.specs.Fmt.{decimal}
use Rattle.floor_proxy.specs.declared.header.NamedBy.{NamedBy}
use Rattle.floor_proxy.specs.declared.header.NamedBy.TheVariants.{Certificate, UniqueId}
use Rattle.floor_proxy.specs.declared.header.ProxyRead.TheVariants.{More}
use Rattle.floor_proxy.specs.declared.name.Name.{Name}
use Rattle.floor_proxy.specs.declared.refusal.ProxyRefusal.{ProxyRefusal}
use Rattle.floor_proxy.specs.declared.refusal.ProxyRefusal.TheVariants.{BadHeader}
use Rattle.floor_proxy.specs.Name.{name_in}
use Rattle.floor_proxy.specs.Tlv.{Tlv, tlvs, value_of}
use Rattle.floor_proxy.specs.Header.{◌>>=◌, addresses_len, named, of_session, proxy, signature, with_len}

-- what is answered of the first bytes, unless more are wanted, is answered with any bytes behind them
abbrev pub AnswersStay : Type 0
AnswersStay = (by : NamedBy) (bytes behind : List ℕ) → proxy by bytes ≢ Ok More → proxy by (bytes ++ behind) ≡ proxy by bytes

-- where more are wanted, some bytes behind them are answered otherwise, together 1,024 at most
abbrev pub AnswersCome : Type 0
AnswersCome = (by : NamedBy) (bytes : List ℕ) → proxy by bytes ≡ Ok More
    → (behind : List ℕ) × (proxy by (bytes ++ behind) ≢ Ok More) × (length (bytes ++ behind) ≤ 1024)

-- where more are wanted of fewer than 16, some bytes behind them are answered, and not as a bad header
abbrev pub FaultsAreToldAtOnce : Type 0
FaultsAreToldAtOnce = (by : NamedBy) (bytes : List ℕ) → proxy by bytes ≡ Ok More → length bytes < 16
    → (behind : List ℕ) × (proxy by (bytes ++ behind) ≢ Ok More) × (proxy by (bytes ++ behind) ≢ Err BadHeader)

-- the bytes of a TLV: its type, the length of its value, the most significant byte first, and its value
abbrev pub tlv_bytes : Tlv → List ℕ
tlv_bytes tlv = tlv.kind ∷ length tlv.value / 256 ∷ length tlv.value % 256 ∷ tlv.value

-- the bytes of TLVs, one behind another
abbrev pub tlvs_bytes : List Tlv → List ℕ
tlvs_bytes found = flat_map tlv_bytes found

-- TLVs are read back from their bytes
abbrev pub ValuesAreReadBack : Type 0
ValuesAreReadBack = (found : List Tlv) → tlvs (tlvs_bytes found) ≡ Some found

-- the bytes name this user of this conference: its digits, a dot, and the user's
abbrev pub name_bytes : Name → List ℕ
name_bytes name = decimal name.conference ++ 46 ∷ decimal name.user

-- a conference has 32 bits, and a user 16
abbrev pub IsName : Name → Type 0
IsName name = (name.conference < 2 ^ 32) × (name.user < 2 ^ 16)

-- bytes name a user exactly where they are the bytes of that name
abbrev pub NamesAreReadBack : Type 0
NamesAreReadBack = (bytes : List ℕ) (name : Name) → (name_in bytes ≡ Some name) ↔ (IsName name × (bytes ≡ name_bytes name))

-- a header of the command PROXY: the family's byte, the addresses, and TLVs
pub record Header : Type 0 where
  pub family : ℕ
  pub addresses : List ℕ
  pub tlvs : List Tlv

-- what its Length counts
abbrev pub length_of : Header → ℕ
length_of header = length header.addresses + length (tlvs_bytes header.tlvs)

-- its bytes
abbrev pub header_bytes : Header → List ℕ
header_bytes header =
    signature ++ 0x21 ∷ header.family ∷ length_of header / 256 ∷ length_of header % 256 ∷ header.addresses ++ tlvs_bytes header.tlvs

-- its family is known and its addresses are as long as the family says, and it has 1,024 bytes at most
pub record IsHeader (header : Header) : Type 0 where
  pub family : addresses_len header.family ≡ Some (length header.addresses)
  pub few : length_of header ≤ 1008

-- the user whom its TLVs name: by a TLS session (20), or by a unique-id (05)
abbrev pub user_of : NamedBy → List Tlv → Result Name ProxyRefusal
user_of Certificate found = of_session (value_of 0x20 found)
user_of UniqueId found = named (value_of 0x05 found)

-- a header is answered by the user whom its TLVs name, and by its length, whatever stands behind it
abbrev pub HeadersAreRead : Type 0
HeadersAreRead = (by : NamedBy) (header : Header) (behind : List ℕ) → IsHeader header
    → proxy by (header_bytes header ++ behind) ≡ (user_of by header.tlvs >>= with_len (16 + length_of header))
