-- What waits for the members of a conference.
use Rattle.std.specs.Prelude.{◌≡◌, ℕ, ◌+◌, List, [], ◌∷◌, ◌++◌, Option, Some, None}
use Rattle.floor_machine.specs.Parcel.{Parcel}
use Rattle.floor_machine.specs.Journal.{sent_to}

-- how many parcels were taken, and those that are held, in order
pub record Outbox : Type 0 where
  pub taken : ℕ
  pub held : List Parcel

-- the outbox of a member that joins
abbrev pub empty_outbox : Outbox
empty_outbox = record { taken = 0; held = [] }

-- an outbox with more behind what it holds
abbrev pub with_held : Outbox → List Parcel → Outbox
with_held o more = record { taken = o.taken; held = o.held ++ more }

-- the outboxes of the members from n on, each with those of the parcels that are for it
abbrev pub delivered : List Parcel → ℕ → List Outbox → List Outbox
delivered ps n [] = []
delivered ps n (o ∷ os) = with_held o (sent_to n ps) ∷ delivered ps (n + 1) os

-- some first of these parcels were put into the outboxes
pub record IsInPart (out : List Parcel) (old new : List Outbox) : Type 0 where
  pub put : List Parcel
  pub rest : List Parcel
  pub all : out ≡ put ++ rest
  pub outboxes : new ≡ delivered put 1 old

-- an outbox gave its first parcel, if it held one
abbrev pub GaveHeld : Outbox → Outbox → List Parcel → Option Parcel → Type 0
GaveHeld old new [] result = (result ≡ None) × (new ≡ old)
GaveHeld old new (p ∷ rest) result = (result ≡ Some p) × (new ≡ record { taken = old.taken + 1; held = rest })
