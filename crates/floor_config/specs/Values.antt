-- One value of a TOML document: its kind, and then its range.
use Rattle.std.specs.Prelude.{ℕ, ℤ, pos, negsuc, Bool, ◌&&◌, true, is_some, option_to_list, nat_le, List, [], ◌++◌, length, Option, Some, None, Result, Ok, Err, if◌then◌else◌}
use Rattle.toml.specs.Data.{Data, Items, no_items, item, Members, as_integer, as_str, as_bool, as_table, as_array}
use Rattle.floor_config.specs.declared.fault.ConfigFault.{ConfigFault}
use Rattle.floor_config.specs.declared.fault.ConfigFault.TheVariants.{MissingKey, WrongType, OutOfRange}
use Rattle.floor_config.specs.Outcome.{◌>>=◌}
use Rattle.floor_config.specs.Limits.{is_within, unless_empty}

-- the value, if it is of the kind that is asked for
abbrev pub of_kind : {A : Type 0} → Option A → Result A ConfigFault
of_kind None = Err WrongType
of_kind (Some x) = Ok x

-- the integer, if it lies from `least` to `most`
abbrev pub within : ℕ → ℕ → ℤ → Result ℕ ConfigFault
within least most (pos n) = if is_within least most n then Ok n else Err OutOfRange
within least most (negsuc n) = Err OutOfRange

-- an integer from `least` to `most`
abbrev pub number_of : ℕ → ℕ → Data → Result ℕ ConfigFault
number_of least most value = of_kind (as_integer value) >>= within least most

-- a text of at most so many bytes, of which an empty one counts as absent
abbrev pub text_of : ℕ → Data → Result (Option (List ℕ)) ConfigFault
text_of most value =
    of_kind (as_str value) >>= λ text. if nat_le (length text) most then Ok (unless_empty text) else Err OutOfRange

-- true or false
abbrev pub flag_of : Data → Result Bool ConfigFault
flag_of value = of_kind (as_bool value)

-- whether each item is a table
abbrev pub are_tables : Items → Bool
are_tables no_items = true
are_tables (item value values) = is_some (as_table value) && are_tables values

-- the tables among the items, in order
abbrev pub tables : Items → List Members
tables no_items = []
tables (item value values) = option_to_list (as_table value) ++ tables values

-- the tables of an array, each of whose items is one
abbrev pub tables_of : Data → Result (List Members) ConfigFault
tables_of value =
    of_kind (as_array value) >>= λ items. if are_tables items then Ok (tables items) else Err WrongType

-- at most so many tables of an array
abbrev pub few_tables_of : ℕ → Data → Result (List Members) ConfigFault
few_tables_of most value = tables_of value >>= λ found. if nat_le (length found) most then Ok found else Err OutOfRange

-- what is read of the value at a key that has to stand
abbrev pub needed : {A : Type 0} → (Data → Result A ConfigFault) → Option Data → Result A ConfigFault
needed read None = Err MissingKey
needed read (Some value) = read value

-- what is read of the value at a key that may be absent
abbrev pub optional : {A : Type 0} → (Data → Result A ConfigFault) → Option Data → Result (Option A) ConfigFault
optional read None = Ok None
optional read (Some value) = read value >>= λ x. Ok (Some x)

-- the text at a key that may be absent
abbrev pub optional_text : ℕ → Option Data → Result (Option (List ℕ)) ConfigFault
optional_text most None = Ok None
optional_text most (Some value) = text_of most value
