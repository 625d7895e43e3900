-- How a client goes on by one call.
use Rattle.std.specs.Prelude.{◌≡◌, ◌⊎◌, ℕ, Bool, Option}
use Rattle.floor_clients.specs.Clients.{Client, closed}
use Rattle.floor_clients.specs.Served.{Goes, Tells}
use Rattle.floor_clients.specs.Wanted.{Told}
use Rattle.floor_clients.specs.Watched.{Sets, next_of, passed_at}
use Rattle.floor_clients.specs.declared.standing.CloseReason.TheVariants as reason
use Rattle.floor_clients.specs.declared.standing.Next.{Next}
use Rattle.floor_clients.specs.declared.standing.Next.TheVariants as gives
use Rattle.floor_desk.specs.declared.caller.PlaceOf.{PlaceOf}

-- it went on by a function, or is to be closed, since memory was refused
abbrev pub OrCloses : (Client → Client) → Client → Client → Type 0
OrCloses f old new = (new ≡ f old) ⊎ (new ≡ closed reason.Memory old)

-- its next line was served, or it is to be closed, since memory was refused
abbrev pub ServesOrCloses : Bool → Next → Client → Client → Type 0
ServesOrCloses draining next old new = Goes draining next old new ⊎ ((next ≡ gives.Nothing) × (new ≡ closed reason.Memory old))

-- it was told what happened, or is to be closed, since memory was refused
abbrev pub TellsOrCloses : Told → Client → Client → Type 0
TellsOrCloses told old new = Tells told old new ⊎ (new ≡ closed reason.Memory old)

-- an event at this place that shows nothing is past; or nothing has changed, where no journal is so long
abbrev pub PassesOrStays : PlaceOf → Client → Client → Type 0
PassesOrStays told old new =
    (new ≡ old) ⊎ ((new ≡ record old { watched = new.watched }) × Sets told.conference (passed_at told.place (next_of old.watched told.conference)) old.watched new.watched)

-- Of a conference it is told that place next, or doesn't watch it by its number.
abbrev pub Watches : ℕ → Option ℕ → Client → Client → Type 0
Watches conference next old new = (new ≡ record old { watched = new.watched }) × Sets conference next old.watched new.watched
