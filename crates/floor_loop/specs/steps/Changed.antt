-- How one connection of a loop is changed.
use Rattle.std.specs.Prelude.{ℕ, List, [], ◌∷◌, nat_eq, drop, if◌then◌else◌, Option, Some, None}
use Rattle.floor_loop.specs.declared.outgoing.Mark.{Mark}
use Rattle.floor_loop.specs.declared.outgoing.Mark.TheVariants.{Ready, Ends, Fails}
use Rattle.floor_loop.specs.Loop.{Outgoing}

-- the time of a mark, where the connection has it
abbrev pub mark_of : Mark → Outgoing → Option ℕ
mark_of Ready o = o.ready
mark_of Ends o = o.ends
mark_of Fails o = o.fails

-- the time, unless there is one
abbrev pub or_time : Option ℕ → ℕ → Option ℕ
or_time None time = Some time
or_time (Some before) time = Some before

-- a connection with a mark of this time, unless it has the mark
abbrev pub marked : Mark → ℕ → Outgoing → Outgoing
marked Ready time o = record o { ready = or_time o.ready time }
marked Ends time o = record o { ends = or_time o.ends time }
marked Fails time o = record o { fails = or_time o.fails time }

-- a connection that isn't to be shut down
abbrev pub unended : Outgoing → Outgoing
unended o = record o { ends = None; fails = None }

-- a connection that was given
abbrev pub given : Outgoing → Outgoing
given o = record o { ready = None }

-- of so many parcels those that are left where this rest is: all, or none where all was written
abbrev pub left_of : List ℕ → ℕ → ℕ
left_of [] parcels = 0
left_of (b ∷ bs) parcels = parcels

-- how many are to be acknowledged: where all was written, and there are any, all of them
abbrev pub some_of : ℕ → Option ℕ
some_of parcels = if nat_eq parcels 0 then None else Some parcels

abbrev pub whole_of : List ℕ → ℕ → Option ℕ
whole_of [] parcels = some_of parcels
whole_of (b ∷ bs) parcels = None

-- a connection whose socket took so many bytes
abbrev pub wrote_of : ℕ → Outgoing → Outgoing
wrote_of count o = record o { rest = drop count o.rest; parcels = left_of (drop count o.rest) o.parcels }

-- a connection with this on its way
abbrev pub carrying : List ℕ → ℕ → Outgoing → Outgoing
carrying rest parcels o = record o { rest = rest; parcels = parcels }

-- the connections, of which the one with this number is changed so
abbrev pub changed : (Outgoing → Outgoing) → ℕ → List (ℕ × Outgoing) → List (ℕ × Outgoing)
changed f number [] = []
changed f number (e ∷ es) = if nat_eq number e.0 then (e.0, f e.1) ∷ es else e ∷ changed f number es
