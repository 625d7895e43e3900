-- Whom to wake, the first apart from the others.
use Rattle.std.specs.Prelude.{List, ◌∷◌, Option, Some, None}
use Rattle.floor_outbox.specs.Ends.{PairId}

-- the first, if there is one, before the others
abbrev pub with_first : Option PairId → List PairId → List PairId
with_first None more = more
with_first (Some pair) more = pair ∷ more
