-- Whom an event told something.
use Rattle.std.specs.Prelude.{◌≡◌, ◌==◌, ℕ, List, [], length, nat_lt}
use Rattle.std.specs.List.{list_any}
use Rattle.std.specs.Option.{option_map_or}
use Rattle.floor_machine.specs.Parcel.{Parcel}
use Rattle.floor_room.specs.Outbox.{Outbox}
use Rattle.floor_room.specs.Taking.{outbox_of}

-- what waits for the member n, and nothing where nobody has joined under the number
abbrev pub waiting_in : List Outbox → ℕ → List Parcel
waiting_in os n = option_map_or (λ o. o.held) (outbox_of os n) []

-- these are the numbers of the members for whom more waits than before
abbrev pub AreTold : List Outbox → List Outbox → List ℕ → Type 0
AreTold old new told = (n : ℕ) → list_any (λ k. k == n) told ≡ nat_lt (length (waiting_in old n)) (length (waiting_in new n))
