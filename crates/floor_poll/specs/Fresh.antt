-- Conferences that are to be opened, and the text that they are of.
use Rattle.std.specs.Prelude.{◌≡◌, Bool, true, false, ℕ, List, map, Ok}
use Rattle.floor_config.specs.Configuration.{Configuration}
use Rattle.floor_config.specs.Reading.{reading}
use Rattle.floor_kept.specs.NewHeads.{AreHeadsIn}
use Rattle.floor_kept.specs.declared.head.NewHead.{NewHead}
use Rattle.floor_poll.specs.declared.fresh.Fresh.{Fresh}
use Rattle.floor_poll.specs.declared.fresh.Fresh.TheVariants.{Unkept, Kept}

-- that of its head, where it is kept
abbrev pub config_of : Fresh → Configuration
config_of (Unkept config) = config
config_of (Kept head) = head.config

-- They are the conferences of the text, in its order: where they are kept, by the heads of its tables.
abbrev pub AreFresh : Bool → List ℕ → List Fresh → Type 0
AreFresh false text all = (configs : List Configuration) × (reading text ≡ Ok configs) × (all ≡ map Unkept configs)
AreFresh true text all = (heads : List NewHead) × AreHeadsIn text heads × (all ≡ map Kept heads)
