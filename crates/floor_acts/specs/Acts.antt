-- What a line asks of a conference.
use Rattle.std.specs.Prelude.{◌^◌, ℕ, Option, Some, None, unwrap_or, Result, Ok, Err, List, [], ◌∷◌, codes, if◌then◌else◌}
use Rattle.std.specs.Str.{bytes_eq}
use Rattle.floor_words.specs.Words.{behind_word, first_word, words}
use Rattle.floor_machine.specs.declared.act.Act.TheVariants.{Revoke, Close, AddUser, AddFloor, SetChair}
use Rattle.floor_acts.specs.declared.act.ActLine.{ActLine}
use Rattle.floor_acts.specs.declared.fault.ActFault.{ActFault}
use Rattle.floor_acts.specs.declared.fault.ActFault.TheVariants.{UnknownCommand}
use Rattle.floor_acts.specs.Forms.{FloorForm, UserForm, floor_form, user_form}
use Rattle.floor_acts.specs.Numbers.{and_then, number_of, number_where, port_where}

-- `close <conference>`
abbrev pub close_line : List (List ℕ) → Result ActLine ActFault
close_line (conference ∷ []) = and_then (number_of (2 ^ 32) conference) (λ c. Ok record { conference = c; act = Close })
close_line _ = Err UnknownCommand

-- `revoke <conference> <request>`
abbrev pub revoke_line : List (List ℕ) → Result ActLine ActFault
revoke_line (conference ∷ request ∷ []) =
    and_then (number_of (2 ^ 32) conference) (λ c.
    and_then (number_of (2 ^ 16) request) (λ r. Ok record { conference = c; act = Revoke r }))
revoke_line _ = Err UnknownCommand

-- the user of a line's words, with its port and its name, where it has them
abbrev pub user_act : UserForm → Result ActLine ActFault
user_act form =
    and_then (number_of (2 ^ 32) form.conference) (λ c.
    and_then (number_of (2 ^ 16) form.id) (λ id.
    and_then (port_where form.port) (λ port.
    Ok record { conference = c; act = AddUser record { id = id; name = form.name; uri = None; proxy = form.proxy; port = port } })))

-- `user <conference> <id> [proxy] [port <port>] [name <text to the end>]`
abbrev pub user_or_fault : Option UserForm → Result ActLine ActFault
user_or_fault (Some form) = user_act form
user_or_fault None = Err UnknownCommand

abbrev pub user_line : List ℕ → Result ActLine ActFault
user_line rest = user_or_fault (user_form rest)

-- the floor of a line's words, with room for one where it says nothing else
abbrev pub floor_act : FloorForm → Result ActLine ActFault
floor_act form =
    and_then (number_of (2 ^ 32) form.conference) (λ c.
    and_then (number_of (2 ^ 16) form.id) (λ id.
    and_then (number_where form.room) (λ room.
    and_then (number_where form.chair) (λ chair.
    Ok record { conference = c; act = AddFloor record { id = id; room = unwrap_or room 1; chair = chair } }))))

-- `floor <conference> <id> [room <room>] [chair <user>]`
abbrev pub floor_or_fault : Option FloorForm → Result ActLine ActFault
floor_or_fault (Some form) = floor_act form
floor_or_fault None = Err UnknownCommand

abbrev pub floor_line : List (List ℕ) → Result ActLine ActFault
floor_line ws = floor_or_fault (floor_form ws)

-- a floor's chair, or that it has none
abbrev pub set_chair : List ℕ → List ℕ → Option (List ℕ) → Result ActLine ActFault
set_chair conference floor user =
    and_then (number_of (2 ^ 32) conference) (λ c.
    and_then (number_of (2 ^ 16) floor) (λ f.
    and_then (number_where user) (λ chair. Ok record { conference = c; act = SetChair f chair })))

-- `chair <conference> <floor> [<user>]`
abbrev pub chair_line : List (List ℕ) → Result ActLine ActFault
chair_line (conference ∷ floor ∷ []) = set_chair conference floor None
chair_line (conference ∷ floor ∷ user ∷ []) = set_chair conference floor (Some user)
chair_line _ = Err UnknownCommand

abbrev pub some : Result ActLine ActFault → Result (Option ActLine) ActFault
some (Ok line) = Ok (Some line)
some (Err fault) = Err fault

-- what stands behind an act's name; nothing where it is no act's
abbrev pub of_name : List ℕ → List ℕ → Result (Option ActLine) ActFault
of_name name rest =
    if bytes_eq name (codes "close") then some (close_line (words rest))
    else if bytes_eq name (codes "revoke") then some (revoke_line (words rest))
    else if bytes_eq name (codes "user") then some (user_line rest)
    else if bytes_eq name (codes "floor") then some (floor_line (words rest))
    else if bytes_eq name (codes "chair") then some (chair_line (words rest))
    else Ok None

-- what a line asks of a conference, where its first word is the name of an act
abbrev pub act_of : List ℕ → Result (Option ActLine) ActFault
act_of line = of_name (first_word line) (behind_word line)
