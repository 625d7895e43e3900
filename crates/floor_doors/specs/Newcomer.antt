-- Somebody at a door of whom a header is awaited.
use Rattle.std.specs.Prelude.{◌≡◌, ◌<◌, ℕ, List, length, Ok}
use Rattle.floor_proxy.specs.declared.header.NamedBy.{NamedBy}
use Rattle.floor_proxy.specs.declared.header.ProxyRead.TheVariants.{More}
use Rattle.floor_proxy.specs.Header.{proxy}

-- by what headers name users here, all bytes that came, and by when the header has to be whole, in microseconds
pub record Newcomer : Type 0 where
  pub named_by : NamedBy
  pub held : List ℕ
  pub until : ℕ

-- the bytes say only that more have to come, and are fewer than 1,024
abbrev pub IsAwaited : NamedBy → List ℕ → Type 0
IsAwaited by held = (proxy by held ≡ Ok More) × (length held < 1024)
