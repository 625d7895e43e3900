-- What taking one parcel comes to.
use Rattle.std.specs.Prelude.{◌≡◌, ◌≤◌, ◌<◌, ℕ, zero, suc, List, length, take, Some, None, Ok}
use Rattle.floor_machine.specs.Parcel.{Parcel}
use Rattle.floor_hub.specs.Connections.{connection_at}
use Rattle.floor_hub.specs.Hub.{Hub}
use Rattle.floor_hub.specs.Rooms.{first_at}
use Rattle.floor_room.specs.Replay.{bytes_of}
use Rattle.floor_ffi.specs.Called.{Taking}
use Rattle.floor_ffi.specs.Gives.{TakesEach}
use Rattle.floor_ffi.specs.Numbers.{number_of}
use Rattle.floor_ffi.specs.declared.outcome.Outcome.TheVariants as outcome
use Rattle.floor_hub.specs.declared.refusal.HubRefusal.TheVariants as hub
use Rattle.floor_ffi.specs.declared.taking.Next.{Next}
use Rattle.floor_ffi.specs.declared.taking.Next.TheVariants.{Taken, Longer, Nothing, NoConnection}

-- this parcel waits first
abbrev pub IsFirst : Hub → ℕ → Parcel → Type 0
IsFirst h connection p = first_at h (connection_at h.connections connection) ≡ Some p

-- what waits first lies at the front of the room; or it is longer than the room; or nothing waits; or there is no connection
abbrev pub PutsOne : Hub → ℕ → ℕ → List ℕ → Next → Type 0
PutsOne h connection size room (Taken len) = (p : Parcel) × IsFirst h connection p × (len ≡ length p.bytes) × (len ≤ size) × (take len room ≡ p.bytes)
PutsOne h connection size room (Longer len) = (p : Parcel) × IsFirst h connection p × (len ≡ length p.bytes) × (size < len)
PutsOne h connection size room Nothing = (connection_at h.connections connection ≡ None → ⊥) × (first_at h (connection_at h.connections connection) ≡ None)
PutsOne h connection size room NoConnection = connection_at h.connections connection ≡ None

-- the same, and what lies at the front of the room was taken
abbrev pub TakesOne : Hub → ℕ → Hub → ℕ → List ℕ → Next → Type 0
TakesOne old connection new size room (Taken len) =
    (p : Parcel) × Taking connection old new (Ok (Some p)) × (len ≡ length p.bytes) × (len ≤ size) × (take len room ≡ p.bytes)
TakesOne old connection new size room next = (new ≡ old) × PutsOne old connection size room next

-- so many parcels were taken, all of which lie at the front of the room
pub record TakesSome (old : Hub) (connection : ℕ) (new : Hub) (parcels len size : ℕ) (room : List ℕ) : Type 0 where
  pub taken : List Parcel
  pub count : parcels ≡ length taken
  pub takes : TakesEach connection taken old new
  pub measured : len ≡ length (bytes_of taken)
  pub within : len ≤ size
  pub bytes : take len room ≡ bytes_of taken

-- what is answered behind the first parcels, and without any
abbrev pub IsEnd : Next → ℕ → ℕ → ℕ → ℕ → ℕ → Type 0
IsEnd next (suc k) len number parcels told = (number ≡ number_of outcome.Done) × (parcels ≡ suc k) × (told ≡ len)
IsEnd (Longer first) zero len number parcels told = (number ≡ number_of outcome.TooShort) × (parcels ≡ 0) × (told ≡ first)
IsEnd NoConnection zero len number parcels told = (number ≡ number_of (outcome.Refused hub.NoConnection)) × (parcels ≡ 0) × (told ≡ 0)
IsEnd Nothing zero len number parcels told = (number ≡ number_of outcome.Nothing) × (parcels ≡ 0) × (told ≡ 0)
IsEnd (Taken more) zero len number parcels told = (number ≡ number_of outcome.Nothing) × (parcels ≡ 0) × (told ≡ 0)
