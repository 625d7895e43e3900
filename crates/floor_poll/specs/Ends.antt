-- What became of a connection that was shut down.
use Rattle.std.specs.Prelude.{◌≡◌, ◌⊎◌, ℕ, Bool, true, false, Option, Some, None, IsSome, nat_eq}
use Rattle.std.specs.List.{list_any}
use Rattle.floor_hub.specs.Connections.{connection_at}
use Rattle.floor_loop.specs.Loop.{Loop, stay_at}
use Rattle.floor_poll.specs.declared.places.Places.{Places}

-- It has left; or its member stays, away; or the server stops, and its member stays where its conference is kept.
abbrev pub IsLetGo : Bool → Loop → ℕ → Type 0
IsLetGo is_stopping l number = (connection_at l.hub.connections number ≡ None) ⊎ (IsSome (stay_at l number) ⊎ (is_stopping ≡ true))

-- whether a user has a connection among those of a conference
abbrev pub is_among : ℕ → Option Places → Bool
is_among user None = false
is_among user (Some p) = list_any (nat_eq user) p.users.items
