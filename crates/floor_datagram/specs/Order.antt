-- Fragments that come in any order (RFC 8855, section 6.2.3).
use Rattle.std.specs.Prelude.{◌≡◌, ℕ, ◌+◌, ◌<◌, Bool, true, false, List, [], ◌∷◌}
use Rattle.floor_datagram.specs.declared.fragments.Range.{Range}

-- those of the ranges that have come
abbrev pub come : List Bool → List Range → List Range
come [] rs = []
come (b ∷ bs) [] = []
come (true ∷ bs) (r ∷ rs) = r ∷ come bs rs
come (false ∷ bs) (r ∷ rs) = come bs rs

-- This range, which hasn't come, is one of them, and with it these have.
abbrev pub Comes : Range → List Range → List Bool → List Bool → Type 0
Comes r [] bs cs = ⊥
Comes r (x ∷ rs) [] cs = ⊥
Comes r (x ∷ rs) (b ∷ bs) [] = ⊥
Comes r (x ∷ rs) (true ∷ bs) (true ∷ cs) = Comes r rs bs cs
Comes r (x ∷ rs) (true ∷ bs) (false ∷ cs) = ⊥
Comes r (x ∷ rs) (false ∷ bs) (true ∷ cs) = (x ≡ r) × (bs ≡ cs)
Comes r (x ∷ rs) (false ∷ bs) (false ∷ cs) = Comes r rs bs cs

-- From this unit on the ranges follow one another, and none is empty.
abbrev pub Follow : (at : ℕ) → List Range → Type 0
Follow at [] = Unit {0}
Follow at (r ∷ rs) = (r.offset ≡ at) × (0 < r.units) × Follow (r.offset + r.units) rs
