-- What a script prints of what waits for connections.
use Rattle.std.specs.Prelude.{ℕ, zero, suc, Bool, true, false, List, [], ◌∷◌, ◌++◌, length, map, filter, codes}
use Rattle.std.specs.List.{flat_map}
use Rattle.std.specs.Fmt.{decimal}
use Rattle.hex.specs.Hex.{encode_lower}
use Rattle.floor_machine.specs.Parcel.{Parcel}
use Rattle.floor_hub.specs.declared.step.Step.TheVariants.{Took}
use Rattle.floor_hub.specs.World.{World, turn}
use Rattle.floor_script.specs.State.{printable, with_printed}
use Rattle.floor_script.specs.declared.attached.Live.{Live}
use Rattle.floor_script.specs.declared.attached.Pace.{Pace}
use Rattle.floor_script.specs.declared.attached.Pace.TheVariants.{Slow, Fast}
use Rattle.floor_script.specs.declared.waiting.Taken.{Taken}

-- the line of a message: the number of the connection, and the bytes in hexadecimal
abbrev pub sent_line : ℕ → List ℕ → List ℕ
sent_line connection bytes = decimal connection ++ (codes " " ++ (encode_lower bytes ++ codes "\n"))

-- the lines of messages to a connection, one after another
abbrev pub sent_lines : ℕ → List Parcel → List ℕ
sent_lines connection parcels = flat_map (λ parcel. sent_line connection parcel.bytes) parcels

abbrev pub is_fast : Pace → Bool
is_fast Slow = false
is_fast Fast = true

-- the numbers of the connections that aren't slow, in order
abbrev pub fast_of : List Live → List ℕ
fast_of lives = map (λ live. live.connection) (filter (λ live. is_fast live.pace) lives)

-- the lines of what waits for these connections, all of one before the next
abbrev pub lines_to : World → List ℕ → (ℕ → ℕ → ℕ) → List ℕ
lines_to w [] printed = []
lines_to w (connection ∷ more) printed = sent_lines connection (printable w printed connection) ++ lines_to w more (with_printed w printed connection)

-- how many parcels were printed behind those lines
abbrev pub printed_to : World → List ℕ → (ℕ → ℕ → ℕ) → ℕ → ℕ → ℕ
printed_to w [] printed = printed
printed_to w (connection ∷ more) printed = printed_to w more (with_printed w printed connection)

-- so many parcels of a connection are to be acknowledged, if there are any
abbrev pub due_of : ℕ → ℕ → List Taken
due_of connection zero = []
due_of connection (suc count) = record { connection = connection; parcels = suc count } ∷ []

-- what is to be acknowledged of those lines: of each connection that it was sent so many
abbrev pub due_to : World → List ℕ → (ℕ → ℕ → ℕ) → List Taken
due_to w [] printed = []
due_to w (connection ∷ more) printed = due_of connection (length (printable w printed connection)) ++ due_to w more (with_printed w printed connection)

-- the world behind these acknowledgements; one that is refused changes nothing
abbrev pub acknowledged : List Taken → World → World
acknowledged [] w = w
acknowledged (taken ∷ more) w = acknowledged more (turn w (Took taken.connection taken.parcels)).world
