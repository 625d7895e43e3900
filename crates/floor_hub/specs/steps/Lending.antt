-- What connections are after one of them was lent.
use Rattle.std.specs.Prelude.{ℕ, Option}
use Rattle.std.specs.Borrow.{Fml, LendsIf, MutBor}
use Rattle.floor_hub.specs.contracts.connection.Connection.{the_row as connection_row}
use Rattle.floor_hub.specs.contracts.connections.Connections.{the_row}
use Rattle.floor_hub.specs.declared.connection.Connection.{Connection}
use Rattle.floor_hub.specs.Connections.{Connections}
use Rattle.floor_hub.specs.steps.Slots.{with_connection}

-- they have under this number what was left behind the reference, where there is one
abbrev pub LendsConnection : MutBor Connections → ℕ → Option (MutBor Connection) → Fml
LendsConnection cs number r = LendsIf the_row connection_row cs r (with_connection cs.now number) cs.now
