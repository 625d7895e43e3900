-- What is due to the members is told and counted, member by member.
use Rattle.std.specs.Prelude.{◌≡◌, ℕ, ◌+◌, ◌==◌, ◌&&◌, ◌||◌, nat_le, nat_lt, not, if◌then◌else◌, Bool, false, List, [], ◌∷◌, ◌++◌, filter, find, length, map}
use Rattle.std.specs.List.{flat_map, list_any}
use Rattle.std.specs.Option.{option_map_or}
use Rattle.floor_machine.specs.declared.member.Member.{Member}
use Rattle.floor_machine.specs.Parcel.{Parcel}
use Rattle.floor_machine.specs.Conference.{AreCut, Conference, live_numbers, member_with}
use Rattle.floor_machine.specs.declared.event.Event.{Event}
use Rattle.floor_machine.specs.Change.{settled}
use Rattle.floor_machine.specs.Told.{due}
use Rattle.floor_machine.specs.Journal.{parcel, sent_to}
use Rattle.floor_machine.specs.Next.{MAX_BACKLOG}
use Rattle.floor_machine.specs.steps.Telling.{noting}

-- so many messages that are due to the member are told
abbrev pub is_told : ℕ → Member → Bool
is_told many m = not m.is_cut && nat_le (m.backlog + many) MAX_BACKLOG

-- the member, to which so many messages are due: they are told, or it is cut
abbrev pub taken_on : ℕ → Member → Member
taken_on many m = if is_told many m then record m { backlog = m.backlog + many } else record m { is_cut = m.is_cut || nat_lt 0 many }

-- so many messages that are due to the member with this number are told
abbrev pub is_told_at : ℕ → ℕ → List Member → Bool
is_told_at many n members = option_map_or (is_told many) (find (λ m. m.n == n) members) false

-- the member with this number, to which so many messages are due, and any other as it is
abbrev pub counted_at : ℕ → ℕ → Member → Member
counted_at many n m = if m.n == n then taken_on many m else m

-- so many messages that are due to the member with this number cut it
abbrev pub is_cut_by : ℕ → ℕ → List Member → Bool
is_cut_by many n members = nat_lt 0 many && not (is_told_at many n members)

-- the numbers of those that are cut, with this one where so many messages cut it
abbrev pub with_cut : ℕ → ℕ → List Member → List ℕ → List ℕ
with_cut many n members cut = if is_cut_by many n members then cut ++ n ∷ [] else cut

-- these are the numbers of the live members that pass
abbrev pub AreThose : (Member → Bool) → List Member → List ℕ → Type 0
AreThose passes members numbers = (n : ℕ) → list_any (λ k. k == n) numbers ≡ option_map_or passes (member_with members n) false

-- the member watches some floor
abbrev pub is_watching : Member → Bool
is_watching m = not (length m.watched == 0)

-- these are the numbers of the live members that watch some floor
abbrev pub AreWatching : List Member → List ℕ → Type 0
AreWatching members numbers = AreThose is_watching members numbers

-- these numbers with this one among them, or without it
abbrev pub noted_if : Bool → ℕ → List ℕ → List ℕ
noted_if is_one n numbers = if is_one then noting n numbers else filter (λ k. not (k == n)) numbers

-- These are the numbers of the live members, ascending, of those of them that watch some floor, and of those that are cut.
pub record AreListed (members : List Member) (numbers watchers noted : List ℕ) : Type 0 where
  pub live : numbers ≡ live_numbers members
  pub watching : AreWatching members watchers
  pub cut : AreCut members noted

-- what is due to the live member with this number
abbrev pub due_at : (Member → List Parcel) → ℕ → List Member → List Parcel
due_at to n members = option_map_or to (member_with members n) []

-- what it is told of that
abbrev pub told_at : (Member → List Parcel) → ℕ → List Member → List Parcel
told_at to n members = if is_told_at (length (due_at to n members)) n members then due_at to n members else []

-- the members, once what is due to it is told to the member with this number
abbrev pub members_at : (Member → List Parcel) → ℕ → List Member → List Member
members_at to n members = map (counted_at (length (due_at to n members)) n) members

-- what those with these numbers are told, one after another
abbrev pub told_each : (Member → List Parcel) → List ℕ → List Member → List Parcel
told_each to [] members = []
told_each to (n ∷ ns) members = told_at to n members ++ told_each to ns (members_at to n members)

-- the members after it
abbrev pub members_each : (Member → List Parcel) → List ℕ → List Member → List Member
members_each to [] members = members
members_each to (n ∷ ns) members = members_each to ns (members_at to n members)

-- of what is due to all, what this member is told
abbrev pub told_of : List Parcel → Member → List Parcel
told_of all m = if is_told (length (sent_to m.n all)) m then sent_to m.n all else []

-- of what is due to all, what all are told
abbrev pub told_of_all : List Parcel → List Member → List Parcel
told_of_all all members = flat_map (told_of all) members

-- the member, once what is due to all is told
abbrev pub counted_of : List Parcel → Member → Member
counted_of all m = taken_on (length (sent_to m.n all)) m

-- the conference, once what is due to all is told
abbrev pub counted_all : List Parcel → Conference → Conference
counted_all all s = record s { members = map (counted_of all) s.members }

-- all that is due after an event, by ascending number
unfoldable pub due_parcels : Conference → Event → List Parcel
due_parcels s e = flat_map (λ m. map (parcel m.n) (due s e m.n)) (settled s e).members
