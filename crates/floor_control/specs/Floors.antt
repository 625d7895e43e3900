-- The line of a floor, with the floor requests for it.
use Rattle.std.specs.Prelude.{ℕ, zero, suc, ◌==◌, Bool, true, false, if◌then◌else◌, Option, Some, None, option_map, option_to_list, List, [], ◌∷◌, ◌++◌, flat_map, find, codes}
use Rattle.std.specs.Fmt.{decimal}
use Rattle.floor_config.specs.declared.floors.Floor.{Floor}
use Rattle.floor_message.specs.Status.{status_number}
use Rattle.floor_message.specs.declared.information.Info.{Info}
use Rattle.floor_message.specs.declared.status.RequestStatus.TheVariants.{Granted}
use Rattle.floor_room.specs.Text.{number_word}
use Rattle.floor_control.specs.declared.floors.Entry.{Entry}
use Rattle.floor_control.specs.declared.floors.Part.{Part}
use Rattle.floor_control.specs.declared.floors.Part.TheVariants.{Holds, Waits, Pends}

-- what a floor request is to a floor, by the status and the queue position that are shown there: it holds the floor where it
-- is Granted (RFC 8855, section 5.2.5), else waits where it has a position, and else neither
abbrev pub part_of : Option (ℕ × ℕ) → Part
part_of (Some (status, position)) =
    if status == status_number Granted then Holds else if position == 0 then Pends else Waits position
part_of None = Pends

-- what a floor request is to this floor, where it is for it
abbrev pub part_in : ℕ → Info → Option Part
part_in floor info = option_map (λ f. part_of f.1) (find (λ f. f.0 == floor) info.floors)

-- a floor request that is for this floor, and whom it is for
abbrev pub entry_with : Info → Part → Entry
entry_with info part = record { request = info.request; user = option_map (λ who. who.user) info.beneficiary; part = part }

abbrev pub entry_of : ℕ → Info → Option Entry
entry_of floor info = option_map (entry_with info) (part_in floor info)

-- those that are for this floor, in the order in which they are shown
abbrev pub entries_of : ℕ → List Info → List Entry
entries_of floor shown = flat_map (λ info. option_to_list (entry_of floor info)) shown

-- two parts are the same
abbrev pub is_same_part : Part → Part → Bool
is_same_part Holds Holds = true
is_same_part Pends Pends = true
is_same_part (Waits a) (Waits b) = a == b
is_same_part _ _ = false

-- a floor request and whom it is for
abbrev pub entry_word : Entry → List ℕ
entry_word e = codes " " ++ (decimal e.request ++ (codes ":" ++ number_word e.user))

-- those that have this part, in their order
abbrev pub word_if : Part → Entry → List ℕ
word_if part e = if is_same_part e.part part then entry_word e else []

abbrev pub words_of : Part → List Entry → List ℕ
words_of part entries = flat_map (word_if part) entries

-- those that wait at the positions from 1 up to this one, by ascending position
unfoldable pub waiting_up_to : ℕ → List Entry → List ℕ
waiting_up_to zero entries = []
waiting_up_to (suc position) entries = waiting_up_to position entries ++ words_of (Waits (suc position)) entries

-- those that wait: a position has 8 bits
abbrev pub waiting : List Entry → List ℕ
waiting entries = waiting_up_to 255 entries

-- words behind their name, where there are any
abbrev pub named : List ℕ → List ℕ → List ℕ
named name [] = []
named name (b ∷ words) = name ++ (b ∷ words)

-- what a floor is
abbrev pub floor_words : Floor → List ℕ
floor_words floor = codes "floor " ++ (decimal floor.id ++ (codes " room " ++ (decimal floor.room ++ (codes " chair " ++ number_word floor.chair))))

-- what is shown of the requests for a floor
abbrev pub requests_words : List Entry → List ℕ
requests_words entries =
    named (codes " holders") (words_of Holds entries)
    ++ (named (codes " waiting") (waiting entries)
    ++ named (codes " pending") (words_of Pends entries))

-- the line of a floor, by the floor requests that are shown
abbrev pub floor_line : Floor → List Info → List ℕ
floor_line floor shown = floor_words floor ++ (requests_words (entries_of floor.id shown) ++ codes "\n")
