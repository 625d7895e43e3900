-- The senders of the members of a conference.
use Rattle.std.specs.Prelude.{◌≡◌, ℕ, zero, suc, ◌+◌, List, [], ◌∷◌, ◌++◌, Bool, false, Option, Some, None, get_or, slice_set}
use Rattle.floor_config.specs.Configuration.{Configuration}
use Rattle.floor_machine.specs.declared.event.Event.{Event}
use Rattle.floor_machine.specs.Parcel.{Parcel}
use Rattle.floor_machine.specs.Journal.{sent_to}
use Rattle.floor_room.specs.Room.{parcels_to}
use Rattle.floor_outbox.specs.Ends.{PairId, Sender}

-- a sender that was put more; nothing is put where it was taken out
abbrev pub with_put : Option Sender → List Parcel → Option Sender
with_put None ps = None
with_put (Some s) ps = Some (record { pair = s.pair; put = s.put ++ ps })

-- the senders of the members from n on, each with those of the parcels that are for it
abbrev pub fed : List Parcel → ℕ → List (Option Sender) → List (Option Sender)
fed ps n [] = []
fed ps n (o ∷ os) = with_put o (sent_to n ps) ∷ fed ps (n + 1) os

-- some first of these parcels were put
pub record IsInPart (out : List Parcel) (old new : List (Option Sender)) : Type 0 where
  pub put : List Parcel
  pub rest : List Parcel
  pub all : out ≡ put ++ rest
  pub senders : new ≡ fed put 1 old

-- the sender of the member n
abbrev pub sender_of : List (Option Sender) → ℕ → Option Sender
sender_of os zero = None
sender_of os (suc k) = get_or os k None

-- the pair of a sender that is there
abbrev pub pair_of : Option Sender → List PairId
pair_of None = []
pair_of (Some s) = s.pair ∷ []

-- the pairs of the members that parcels are for, parcel by parcel
abbrev pub pairs_of : List (Option Sender) → List Parcel → List PairId
pairs_of os [] = []
pairs_of os (p ∷ ps) = pair_of (sender_of os p.n) ++ pairs_of os ps

-- the senders without that of the member n
abbrev pub without : List (Option Sender) → ℕ → List (Option Sender)
without os zero = os
without os (suc k) = slice_set os k None

-- Of what is called for at a member, this was put first. Nothing is left out unless an event was broken off.
pub record IsPut (all put : List Parcel) (is_broken : Bool) : Type 0 where
  pub rest : List Parcel
  pub sent : all ≡ put ++ rest
  pub whole : is_broken ≡ false → rest ≡ []

-- the same of a sender that is there
abbrev pub IsFed : List Parcel → Bool → Option Sender → Type 0
IsFed all b None = Unit {0}
IsFed all b (Some s) = IsPut all s.put b

-- the same of each member from n on
abbrev pub AreFed : Configuration → List Event → Bool → ℕ → List (Option Sender) → Type 0
AreFed config es b n [] = Unit {0}
AreFed config es b n (o ∷ os) = IsFed (parcels_to config es n) b o × AreFed config es b (n + 1) os
