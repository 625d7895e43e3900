-- The ports that are no user's.
use Rattle.std.specs.Prelude.{ℕ, List, codes}
use Rattle.floor_server.specs.declared.entry.Entrance.{Entrance}
use Rattle.floor_server.specs.declared.entry.Entrance.TheVariants as entrance

-- what a person is told that it is
abbrev pub name_of_door : Entrance → List ℕ
name_of_door entrance.ByCertificate = codes "door"
name_of_door entrance.ById = codes "door"
name_of_door entrance.Health = codes "health"
