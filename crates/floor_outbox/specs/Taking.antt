-- What a taker finds, and what it has taken then.
use Rattle.std.specs.Prelude.{[], ◌∷◌, ◌++◌}
use Rattle.floor_outbox.specs.Ends.{Taker}
use Rattle.floor_outbox.specs.declared.taker.Taken.{Taken}
use Rattle.floor_outbox.specs.declared.taker.Taken.TheVariants.{Parcel, Empty, Closed}

-- a taker that found a parcel has taken it behind all that it took; one that found none is as it was
abbrev pub after_take : Taker → Taken → Taker
after_take t (Parcel parcel) = record t { taken = t.taken ++ parcel ∷ [] }
after_take t Empty = t
after_take t Closed = t
