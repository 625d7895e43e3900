-- The types of attributes, with the format of each (RFC 8855, section 5.2, table 2).
use Rattle.std.specs.Prelude.{◌≡◌, ℕ, true, false, List, [], ◌∷◌, All}
use Rattle.floor_wire.specs.Spelling.{format_of, is_known}
use Rattle.floor_wire.specs.declared.format.Format.{Format}
use Rattle.floor_wire.specs.declared.format.Format.TheVariants.{Unsigned16, OctetString16, Grouped, OctetString}

-- section 5.2.1
abbrev pub BENEFICIARY_ID : ℕ
BENEFICIARY_ID = 1

-- section 5.2.2
abbrev pub FLOOR_ID : ℕ
FLOOR_ID = 2

-- section 5.2.3
abbrev pub FLOOR_REQUEST_ID : ℕ
FLOOR_REQUEST_ID = 3

-- section 5.2.4
abbrev pub PRIORITY : ℕ
PRIORITY = 4

-- section 5.2.5
abbrev pub REQUEST_STATUS : ℕ
REQUEST_STATUS = 5

-- section 5.2.6
abbrev pub ERROR_CODE : ℕ
ERROR_CODE = 6

-- section 5.2.7
abbrev pub ERROR_INFO : ℕ
ERROR_INFO = 7

-- section 5.2.8
abbrev pub PARTICIPANT_PROVIDED_INFO : ℕ
PARTICIPANT_PROVIDED_INFO = 8

-- section 5.2.9
abbrev pub STATUS_INFO : ℕ
STATUS_INFO = 9

-- section 5.2.10
abbrev pub SUPPORTED_ATTRIBUTES : ℕ
SUPPORTED_ATTRIBUTES = 10

-- section 5.2.11
abbrev pub SUPPORTED_PRIMITIVES : ℕ
SUPPORTED_PRIMITIVES = 11

-- section 5.2.12
abbrev pub USER_DISPLAY_NAME : ℕ
USER_DISPLAY_NAME = 12

-- section 5.2.13
abbrev pub USER_URI : ℕ
USER_URI = 13

-- section 5.2.14
abbrev pub BENEFICIARY_INFORMATION : ℕ
BENEFICIARY_INFORMATION = 14

-- section 5.2.15
abbrev pub FLOOR_REQUEST_INFORMATION : ℕ
FLOOR_REQUEST_INFORMATION = 15

-- section 5.2.16
abbrev pub REQUESTED_BY_INFORMATION : ℕ
REQUESTED_BY_INFORMATION = 16

-- section 5.2.17
abbrev pub FLOOR_REQUEST_STATUS : ℕ
FLOOR_REQUEST_STATUS = 17

-- section 5.2.18
abbrev pub OVERALL_REQUEST_STATUS : ℕ
OVERALL_REQUEST_STATUS = 18

-- an attribute of the protocol: its type, and the format of its contents
pub record Entry : Type 0 where
  pub kind : ℕ
  pub format : Format

abbrev pub entry : ℕ → Format → Entry
entry kind format = record { kind = kind; format = format }

-- the attributes of the protocol
abbrev pub table : List Entry
table =
    entry BENEFICIARY_ID Unsigned16
    ∷ entry FLOOR_ID Unsigned16
    ∷ entry FLOOR_REQUEST_ID Unsigned16
    ∷ entry PRIORITY OctetString16
    ∷ entry REQUEST_STATUS OctetString16
    ∷ entry ERROR_CODE OctetString
    ∷ entry ERROR_INFO OctetString
    ∷ entry PARTICIPANT_PROVIDED_INFO OctetString
    ∷ entry STATUS_INFO OctetString
    ∷ entry SUPPORTED_ATTRIBUTES OctetString
    ∷ entry SUPPORTED_PRIMITIVES OctetString
    ∷ entry USER_DISPLAY_NAME OctetString
    ∷ entry USER_URI OctetString
    ∷ entry BENEFICIARY_INFORMATION Grouped
    ∷ entry FLOOR_REQUEST_INFORMATION Grouped
    ∷ entry REQUESTED_BY_INFORMATION Grouped
    ∷ entry FLOOR_REQUEST_STATUS Grouped
    ∷ entry OVERALL_REQUEST_STATUS Grouped
    ∷ []

-- each type of the table is known and has its format there; a type that isn't known has octets
pub record FormatsAreOfTable : Type 0 where
  pub known : All (λ e. is_known e.kind ≡ true) table
  pub formats : All (λ e. format_of e.kind ≡ e.format) table
  pub others : (kind : ℕ) → is_known kind ≡ false → format_of kind ≡ OctetString
