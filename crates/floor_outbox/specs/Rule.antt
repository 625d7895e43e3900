-- The rule of the queue of one connection: after every step, what was put is what was taken and then what the queue holds. Who may put or take has a pass, which logs what it put and took.
use Rattle.std.specs.Prelude.{◌≡◌, ℕ, Bool, true, List, [], ◌∷◌, ◌++◌, length, drop}
use mathlib.Core.Option.{some}
use lib.ListN.{get_elem?}
use Rattle.floor_machine.specs.Parcel.{Parcel}
use Rattle.floor_outbox.specs.declared.rule.Log.{Log}

-- what a pass may do, and what it has done
abbrev pub log : Bool → Bool → List Parcel → List Parcel → Log
log a b put taken = record { puts = a; takes = b; put = put; taken = taken }

-- a pass that may put is the writer's, and its log has all that was put; one that may take is the reader's, and its log has all that was taken
abbrev pub Fits : ℕ → ℕ → List Parcel → List Parcel → ℕ → Log → Type 0
Fits writer reader put taken port v = (v.puts ≡ true → (port ≡ writer) × (v.put ≡ put)) × (v.takes ≡ true → (port ≡ reader) × (v.taken ≡ taken))

-- there is one writer and one reader, and what was put is what was taken and then what the queue holds
abbrev pub Relayed : List Parcel → List Log → Type 0
Relayed items views = (writer : ℕ) × (reader : ℕ) × (put : List Parcel) × (taken : List Parcel) × (put ≡ taken ++ items)
    × ((port : ℕ) (v : Log) → get_elem? views port ≡ some v → Fits writer reader put taken port v)

-- what was put and not taken
abbrev pub held_of : Log → List Parcel
held_of v = drop (length v.taken) v.put

-- a take by the one pass that has put and taken all
abbrev pub Drained : Log → Parcel → Log → Type 0
Drained v x w = (w ≡ log v.puts v.takes v.put (v.taken ++ x ∷ [])) × (held_of v ≡ x ∷ held_of w) × (w.put ≡ w.taken ++ held_of w)

-- what a count of the queue tells the one pass that has put and taken all: what it put and didn't take is what the queue holds
abbrev pub Counted : Log → List Parcel → Type 0
Counted v items = (held_of v ≡ items) × (v.put ≡ v.taken ++ held_of v)
