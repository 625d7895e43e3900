-- How often the loops of a script turn.
use Rattle.std.proofs.Common.{◌≡◌, ℕ, refl}
use Rattle.floor_script.specs.State.{most_at_once}

pub most_is : most_at_once ≡ 100000000
unfolding most_at_once
most_is = refl
