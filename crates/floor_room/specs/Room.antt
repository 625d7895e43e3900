-- One conference as it is kept: what a room is seen as, and what holds of each room.
use Rattle.std.specs.Prelude.{◌≡◌, ℕ, ◌+◌, ◌≤◌, List, [], ◌∷◌, ◌++◌, length, map, take, nat_le, Bool, false}
use Rattle.std.specs.Option.{option_map_or}
use Rattle.floor_config.specs.Configuration.{Configuration}
use Rattle.floor_machine.specs.Conference.{opening}
use Rattle.floor_machine.specs.declared.event.Event.{Event}
use Rattle.floor_machine.specs.Events.{joiner}
use Rattle.floor_machine.specs.Parcel.{Parcel}
use Rattle.floor_machine.specs.Journal.{IsJournal, MAX_EVENTS, parcel, told_from}
use Rattle.floor_room.specs.Ledger.{Ledger, broken_off, conference_of, new_ledger}
use Rattle.floor_room.specs.Outbox.{Outbox, empty_outbox}

-- the ledger, and each member's outbox, in the order of joining; behind how many of its events none has told anything; and how many of its events are kept
pub record Room : Type 0 where
  pub ledger : Ledger
  pub outboxes : List Outbox
  pub told : ℕ
  pub kept : ℕ

-- the room of a conference that opens: nothing that it tells waits to be kept, as in one of which no file is kept
abbrev pub new_room : Configuration → Room
new_room config = record { ledger = new_ledger config; outboxes = []; told = 0; kept = MAX_EVENTS }

-- a room that is broken off
abbrev pub broken_room : Room → Room
broken_room r = record r { ledger = broken_off r.ledger }

-- all that was told is kept, so that it is handed out
abbrev pub is_kept : Room → Bool
is_kept r = nat_le r.told r.kept

-- the outbox that an event adds: that of the member that joins
abbrev pub joined : Event → List Outbox
joined e = option_map_or (λ user. empty_outbox ∷ []) (joiner e) []

-- what a journal calls for at n, as parcels
abbrev pub parcels_to : Configuration → List Event → ℕ → List Parcel
parcels_to config es n = map (parcel n) (told_from (opening config) es n)

-- Of what is called for at a member, first so many parcels were taken, then those are held, and the rest was never queued. Nothing is left out unless an event was broken off.
pub record IsSent (all : List Parcel) (o : Outbox) (is_broken : Bool) : Type 0 where
  pub taken : List Parcel
  pub count : length taken ≡ o.taken
  pub rest : List Parcel
  pub sent : all ≡ taken ++ o.held ++ rest
  pub whole : is_broken ≡ false → rest ≡ []

-- the same of each member from n on
abbrev pub AreSent : Configuration → List Event → Bool → ℕ → List Outbox → Type 0
AreSent config es is_broken n [] = Unit {0}
AreSent config es is_broken n (o ∷ os) = IsSent (parcels_to config es n) o is_broken × AreSent config es is_broken (n + 1) os

-- Of what these events call for at each member from n on, as many parcels were taken at most: of nothing else any was.
abbrev pub AreHanded : Configuration → List Event → ℕ → List Outbox → Type 0
AreHanded config es n [] = Unit {0}
AreHanded config es n (o ∷ os) = (o.taken ≤ length (parcels_to config es n)) × AreHanded config es (n + 1) os

-- What holds of each room: its journal is a journal of its configuration, each member ever joined has an outbox, and each is sent what the journal calls for; no event behind the last that told something calls for
-- anything; and nothing was taken but what the events call for that are kept.
pub record IsRoom (r : Room) : Type 0 where
  pub journal : IsJournal r.ledger.config r.ledger.journal
  pub members : length r.outboxes ≡ length (conference_of r.ledger).members
  pub sent : AreSent r.ledger.config r.ledger.journal r.ledger.is_broken 1 r.outboxes
  pub within : r.told ≤ length r.ledger.journal
  pub quiet : (n : ℕ) → parcels_to r.ledger.config r.ledger.journal n ≡ parcels_to r.ledger.config (take r.told r.ledger.journal) n
  pub handed : AreHanded r.ledger.config (take r.kept r.ledger.journal) 1 r.outboxes
