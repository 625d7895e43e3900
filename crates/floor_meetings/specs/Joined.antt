-- Who may become a member, and what becomes of the slot.
use Rattle.std.specs.Prelude.{◌≡◌, ◌⊎◌, ◌≤◌, ◌<◌, ℕ, Bool, true, false, nat_eq, List, [], filter, length, IsSome, Option, Some, None, is_some, option_and_then}
use Rattle.floor_hub.specs.declared.attached.Live.{Live}
use Rattle.floor_hub.specs.Hub.{room_at}
use Rattle.floor_hub.specs.Members.{AreMembers}
use Rattle.floor_loop.specs.Laws.{IsNew}
use Rattle.floor_loop.specs.Done.{Returns}
use Rattle.floor_loop.specs.Loop.{Loop, ready_at}
use Rattle.floor_loop.specs.Returned.{Returned}
use Rattle.floor_loop.specs.Written.{Spares, Wakes}
use Rattle.floor_meetings.specs.Calls.{Quiet}
use Rattle.floor_meetings.specs.declared.meetings.Meetings.{Meetings}
use Rattle.floor_meetings.specs.declared.members.Member.{Member}
use Rattle.floor_meetings.specs.declared.refusal.JoinRefusal.{JoinRefusal}
use Rattle.floor_meetings.specs.declared.refusal.JoinRefusal.TheVariants.{InUse, UserConnections, Connections, Memory, ByHub}
use Rattle.floor_meetings.specs.Members.{Members, member_in, slot_of}
use Rattle.floor_meetings.specs.Meetings.{member_at}

-- the member with this number, where it is in a slot
abbrev pub member_with : Members → ℕ → Option Member
member_with ms number = option_and_then (member_in ms) (slot_of ms number)

-- it is a member of this user
abbrev pub is_of : ℕ → Option Member → Bool
is_of user None = false
is_of user (Some m) = nat_eq m.user user

-- how many of these live connections are in slots, and how many of those are this user's
abbrev pub in_slots : Members → List Live → ℕ
in_slots ms live = length (filter (λ l. is_some (member_with ms l.number)) live)

abbrev pub of_user : Members → ℕ → List Live → ℕ
of_user ms user live = length (filter (λ l. is_of user (member_with ms l.number)) live)

-- Fewer sockets than there may be are this user's in the conference, and the conference's.
pub record HasPlaces (conference user : ℕ) (m : Meetings) : Type 0 where
  pub live : List Live
  pub members : AreMembers m.hub.hub conference live
  pub own : of_user m.members user live < m.bounds.of_user
  pub all : in_slots m.members live < m.bounds.of_conference

-- As many as there may be are this user's.
pub record HasNoneForUser (conference user : ℕ) (m : Meetings) : Type 0 where
  pub live : List Live
  pub members : AreMembers m.hub.hub conference live
  pub own : m.bounds.of_user ≤ of_user m.members user live

-- As many as there may be are the conference's, and fewer this user's.
pub record HasNone (conference user : ℕ) (m : Meetings) : Type 0 where
  pub live : List Live
  pub members : AreMembers m.hub.hub conference live
  pub own : of_user m.members user live < m.bounds.of_user
  pub all : m.bounds.of_conference ≤ in_slots m.members live

-- Why a user may not join in a slot: the first that applies. Of memory nothing is told before.
abbrev pub IsRefused : ℕ → ℕ → ℕ → Meetings → JoinRefusal → Type 0
IsRefused slot conference user m InUse = is_some (member_at m slot) ≡ true
IsRefused slot conference user m UserConnections = (member_at m slot ≡ None) × HasNoneForUser conference user m
IsRefused slot conference user m Connections = (member_at m slot ≡ None) × HasNone conference user m
IsRefused slot conference user m Memory = ⊥
IsRefused slot conference user m (ByHub r) = (member_at m slot ≡ None) × (room_at m.hub.hub conference ≡ None)

-- a join that may be is refused so: memory was refused for the slot, or the loop refuses it
abbrev pub is_late : JoinRefusal → Bool
is_late InUse = false
is_late UserConnections = false
is_late Connections = false
is_late Memory = true
is_late (ByHub r) = true

-- The slot had nobody. It has a member of this conference and this user now, by an attach of the loop's that is no other's, and is
-- ready; no other slot has changed.
pub record Joins (slot conference user : ℕ) (old new : Meetings) : Type 0 where
  pub free : member_at old slot ≡ None
  pub member : Member
  pub here : member_at new slot ≡ Some member
  pub place : (member.conference ≡ conference) × (member.user ≡ user)
  pub returned : Returned conference user member.number old.hub new.hub
  pub fresh : IsNew new.hub member.number
  pub ready : IsSome (ready_at new.hub member.number)
  pub quiet : Quiet (Returns conference user new.hub.attended.away.back) old.hub new.hub
  pub woke : Wakes old.hub new.hub
  pub spares : Spares old.hub new.hub
  pub others : slot_of old.members member.number ≡ None → (k : ℕ) → nat_eq slot k ≡ false → member_at new k ≡ member_at old k

-- after a refusal each slot is as it was
pub record SameSlots (old new : Meetings) : Type 0 where
  pub slots : (k : ℕ) → member_at new k ≡ member_at old k

-- What became of the loop behind a refusal: nothing, or where the hub refused the attach what that has changed.
abbrev pub LeftBy : JoinRefusal → ℕ → ℕ → Loop → Loop → Type 0
LeftBy InUse conference user old new = new ≡ old
LeftBy UserConnections conference user old new = new ≡ old
LeftBy Connections conference user old new = new ≡ old
LeftBy Memory conference user old new = new ≡ old
LeftBy (ByHub r) conference user old new = (new ≡ old) ⊎ Quiet (Returns conference user []) old new
