-- The reason of a floor, looked for behind the floors that are named already.
use Rattle.std.specs.Prelude.{ℕ, ◌==◌, List, [], ◌∷◌, ◌++◌, map, Option, None, if◌then◌else◌}
use Rattle.floor_wire.specs.Types.{FLOOR_REQUEST_STATUS}
use Rattle.std.specs.List.{list_any}
use Rattle.floor_wire.specs.declared.attribute.Attr.{Attr}
use Rattle.floor_message.specs.Fields.{status_info_in, reason_for}
use Rattle.floor_message.specs.Picked.{groups}

-- the reason in a group, unless its floor is named already
abbrev pub reason_unless_named : List ℕ → ℕ × List Attr → Option (List ℕ)
reason_unless_named named g = if list_any (λ floor. g.0 == floor) named then None else status_info_in g.1

-- the floors that are named
abbrev pub floors_named : List Attr → List ℕ
floors_named inside = map (λ g. g.0) (groups FLOOR_REQUEST_STATUS inside)

-- the first reason in groups whose floor isn't named already
abbrev pub reason_behind : List ℕ → List (ℕ × List Attr) → Option (List ℕ)
reason_behind named [] = None
reason_behind named (g ∷ gs) = reason_for (reason_unless_named named g) (reason_behind (named ++ g.0 ∷ []) gs)
