-- What values by number end as, once one of them was lent to be changed.
use Rattle.std.specs.Prelude.{◌≡◌, ℕ, Option, nat_eq}
use Rattle.std.specs.Borrow.{Fml, RattleType, MutBor, LendsSo}
use Rattle.std.specs.declared.hash.Hasher as hasher
use Rattle.std.specs.declared.hash.BuildHasher as builder
use Rattle.indexmap.specs.IndexMap.{IndexMap, WritesThrough}
use Rattle.floor_numbered.specs.contracts.numbered.Numbered.{the_row}

module _ (V S H : RattleType) (build : builder.Ghosts S.Denot H.Denot) (hash : hasher.Ghosts H.Denot) where
  -- the type, as the logic holds it
  abbrev pub numbered_row : RattleType
  numbered_row = the_row V S H build hash

  -- the number has the last value written through r, and at `None` all is as it was
  abbrev pub lends_value : MutBor (IndexMap ℕ V.Denot S.Denot) → ℕ → Option (MutBor V.Denot) → Fml
  lends_value m number r = LendsSo numbered_row V m r (λ n w. WritesThrough nat_eq (nat_eq number) m.now w n) (λ n. n ≡ m.now)
