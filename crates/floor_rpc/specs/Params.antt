-- What a parameter says.
use Rattle.std.specs.Prelude.{◌≡◌, ◌⊎◌, ◌^◌, ℕ, Bool, false, not, nat_le, Option, Some, None, Result, Ok, Err, List, [], ◌∷◌, if◌then◌else◌}
use Rattle.std.specs.List.{find, list_any}
use Rattle.std.specs.Str.{bytes_eq}
use Rattle.floor_words.specs.Words.{number}
use Rattle.json.specs.Json.{Json, Items, no_items, item, Members}
use Rattle.json.specs.Find.{as_array, as_bool, as_number, as_object, as_str, get, is_null}
use Rattle.json.specs.Strict.{keys}
use Rattle.floor_rpc.specs.declared.fault.RequestFault.{RequestFault}
use Rattle.floor_rpc.specs.declared.fault.RequestFault.TheVariants.{BadParam, Memory}
use Rattle.floor_rpc.specs.declared.fault.Why.{Why}
use Rattle.floor_rpc.specs.declared.fault.Why.TheVariants.{Missing, Unknown, WrongType, OutOfRange}

-- what follows from a part of a request: where the part is bad its fault counts, and nothing behind it
abbrev pub and_then : {A B : Type 0} → Result A RequestFault → (A → Result B RequestFault) → Result B RequestFault
and_then (Ok part) next = next part
and_then (Err fault) next = Err fault

-- a reading gives what is meant, or memory was refused
abbrev pub Reads : {A : Type 0} → Result A RequestFault → Result A RequestFault → Type 0
Reads meant result = (result ≡ meant) ⊎ (result ≡ Err Memory)

-- ---- a value

abbrev pub or_why : {A : Type 0} → Why → Option A → Result A Why
or_why why (Some a) = Ok a
or_why why None = Err why

-- the number that a number's text writes, where it is below the limit
abbrev pub number_in : ℕ → Option (List ℕ) → Result ℕ Why
number_in limit (Some digits) = or_why OutOfRange (number limit digits)
number_in limit None = Err WrongType

-- a whole number below the limit, without a point or an exponent
abbrev pub number_of : ℕ → Json → Result ℕ Why
number_of limit j = number_in limit (as_number j)

-- a number of 16 bits: a user, a floor, a floor request, a port
abbrev pub u16_of : Json → Result ℕ Why
u16_of = number_of (2 ^ 16)

-- a number of 32 bits: a conference, a member
abbrev pub u32_of : Json → Result ℕ Why
u32_of = number_of (2 ^ 32)

-- a number of ten digits at most: a place, a count
abbrev pub place_of : Json → Result ℕ Why
place_of = number_of (10 ^ 10)

abbrev pub up_to_4 : Result ℕ Why → Result ℕ Why
up_to_4 (Ok n) = if nat_le n 4 then Ok n else Err OutOfRange
up_to_4 (Err why) = Err why

-- a priority (RFC 8855, section 5.2.4)
abbrev pub priority_of : Json → Result ℕ Why
priority_of j = up_to_4 (u16_of j)

abbrev pub text_of : Json → Result (List ℕ) Why
text_of j = or_why WrongType (as_str j)

abbrev pub bool_of : Json → Result Bool Why
bool_of j = or_why WrongType (as_bool j)

-- ---- a parameter

-- what a value says, as that of the parameter of this name
abbrev pub named : {A : Type 0} → List ℕ → Result A Why → Result A RequestFault
named name (Ok a) = Ok a
named name (Err why) = Err (BadParam (Some name) why)

abbrev pub needed_in : {A : Type 0} → (Json → Result A Why) → List ℕ → Option Json → Result A RequestFault
needed_in read name (Some j) = named name (read j)
needed_in read name None = Err (BadParam (Some name) Missing)

-- a parameter that has to be there
abbrev pub needed : {A : Type 0} → (Json → Result A Why) → List ℕ → Json → Result A RequestFault
needed read name params = needed_in read name (get name params)

abbrev pub some : {A : Type 0} → Result A RequestFault → Result (Option A) RequestFault
some (Ok a) = Ok (Some a)
some (Err fault) = Err fault

abbrev pub optional_in : {A : Type 0} → (Json → Result A Why) → List ℕ → Option Json → Result (Option A) RequestFault
optional_in read name (Some j) = some (named name (read j))
optional_in read name None = Ok None

-- a parameter that may be left out
abbrev pub optional : {A : Type 0} → (Json → Result A Why) → List ℕ → Json → Result (Option A) RequestFault
optional read name params = optional_in read name (get name params)

abbrev pub flag_in : List ℕ → Option Json → Result Bool RequestFault
flag_in name (Some j) = named name (bool_of j)
flag_in name None = Ok false

-- a parameter that is `false` where it is left out
abbrev pub flag : List ℕ → Json → Result Bool RequestFault
flag name params = flag_in name (get name params)

abbrev pub some_value : {A : Type 0} → Result A Why → Result (Option A) Why
some_value (Ok a) = Ok (Some a)
some_value (Err why) = Err why

-- a value that may be `null`
abbrev pub or_null : {A : Type 0} → (Json → Result A Why) → Json → Result (Option A) Why
or_null read j = if is_null j then Ok None else some_value (read j)

-- ---- lists

abbrev pub and_rest : {A : Type 0} → A → Result (List A) RequestFault → Result (List A) RequestFault
and_rest a (Ok rest) = Ok (a ∷ rest)
and_rest a (Err fault) = Err fault

-- what each item says, up to the first that is bad
abbrev pub each : {A : Type 0} → (Json → Result A RequestFault) → Items → Result (List A) RequestFault
each read no_items = Ok []
each read (item j js) = and_then (read j) (λ a. and_rest a (each read js))

abbrev pub each_in : {A : Type 0} → (Json → Result A RequestFault) → List ℕ → Option Items → Result (List A) RequestFault
each_in read name (Some js) = each read js
each_in read name None = Err (BadParam (Some name) WrongType)

-- what the items of an array say that stands under the name
abbrev pub list_of : {A : Type 0} → (Json → Result A RequestFault) → List ℕ → Json → Result (List A) RequestFault
list_of read name j = each_in read name (as_array j)

abbrev pub list_in : {A : Type 0} → (Json → Result A RequestFault) → List ℕ → Result (List A) RequestFault → Option Json → Result (List A) RequestFault
list_in read name otherwise (Some j) = list_of read name j
list_in read name otherwise None = otherwise

-- a list that has to be there
abbrev pub needed_list : {A : Type 0} → (Json → Result A RequestFault) → List ℕ → Json → Result (List A) RequestFault
needed_list read name params = list_in read name (Err (BadParam (Some name) Missing)) (get name params)

-- a list that is empty where it is left out
abbrev pub list_or_empty : {A : Type 0} → (Json → Result A RequestFault) → List ℕ → Json → Result (List A) RequestFault
list_or_empty read name params = list_in read name (Ok []) (get name params)

abbrev pub optional_list_in : {A : Type 0} → (Json → Result A RequestFault) → List ℕ → Option Json → Result (Option (List A)) RequestFault
optional_list_in read name (Some j) = some (list_of read name j)
optional_list_in read name None = Ok None

-- a list that may be left out
abbrev pub optional_list : {A : Type 0} → (Json → Result A RequestFault) → List ℕ → Json → Result (Option (List A)) RequestFault
optional_list read name params = optional_list_in read name (get name params)

-- ---- names

abbrev pub keys_of : Option Members → List (List ℕ)
keys_of (Some ms) = keys ms
keys_of None = []

-- the first key of an object that isn't among the names
abbrev pub first_unknown : List (List ℕ) → Json → Option (List ℕ)
first_unknown names j = find (λ key. not (list_any (λ name. bytes_eq name key) names)) (keys_of (as_object j))

abbrev pub refuse : Option (List ℕ) → Result (Unit {0}) RequestFault
refuse (Some key) = Err (BadParam (Some key) Unknown)
refuse None = Ok tt

-- an object has no key but these
abbrev pub only : List (List ℕ) → Json → Result (Unit {0}) RequestFault
only names j = refuse (first_unknown names j)

abbrev pub object_in : List ℕ → Option Members → Result (Unit {0}) RequestFault
object_in name (Some ms) = Ok tt
object_in name None = Err (BadParam (Some name) WrongType)

-- an item of the list of this name is an object, and has no key but these
abbrev pub item_only : List ℕ → List (List ℕ) → Json → Result (Unit {0}) RequestFault
item_only name names j = and_then (object_in name (as_object j)) (λ _. only names j)
