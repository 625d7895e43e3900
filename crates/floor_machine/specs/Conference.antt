-- The state of one conference (RFC 8855, sections 3 and 4).
use Rattle.std.specs.Prelude.{◌≡◌, ℕ, ◌+◌, ◌==◌, ◌&&◌, Bool, true, false, List, [], ◌∷◌, find, filter, map, Option, is_some}
use Rattle.std.specs.List.{list_any}
use Rattle.std.specs.Option.{option_map_or}
use Rattle.floor_config.specs.Configuration.{Configuration, user_ids}
use Rattle.floor_queue.specs.declared.request.Request.{Request}
use Rattle.floor_message.specs.Binding.{Binding}
use Rattle.floor_machine.specs.declared.member.Member.{Member}

-- the configuration that stands now; how many floor requests were ever accepted; the ongoing ones by ascending number; the
-- members in the order of joining; and whether the conference is open, or has ended
pub record Conference : Type 0 where
  pub config : Configuration
  pub given : ℕ
  pub ongoing : List Request
  pub members : List Member
  pub is_open : Bool

-- a conference as it opens, with its opening configuration: nobody has joined, and nothing is requested
abbrev pub opening : Configuration → Conference
opening config = record { config = config; given = 0; ongoing = []; members = []; is_open = true }

-- the live member with this number
abbrev pub member_with : List Member → ℕ → Option Member
member_with members n = find (λ m. m.n == n && m.is_live) members

-- a member as it joins: it watches nothing, is told everything, and nothing was told to it yet
abbrev pub joining : ℕ → ℕ → Member
joining n user = record { n = n; user = user; watched = []; is_live = true; backlog = 0; is_cut = false }

-- n has joined and hasn't left
abbrev pub is_live : Conference → ℕ → Bool
is_live s n = is_some (member_with s.members n)

-- the numbers of the live members, in their order
abbrev pub live_numbers : List Member → List ℕ
live_numbers members = map (λ m. m.n) (filter (λ m. m.is_live) members)

-- these are the numbers of the live members that are cut
abbrev pub AreCut : List Member → List ℕ → Type 0
AreCut members cut = (n : ℕ) → list_any (λ k. k == n) cut ≡ option_map_or (λ m. m.is_cut) (member_with members n) false

-- the members are numbered from k on, in their order
abbrev pub is_numbered_from : ℕ → List Member → Bool
is_numbered_from k [] = true
is_numbered_from k (m ∷ members) = m.n == k && is_numbered_from (k + 1) members

-- the user whose connection n is
abbrev pub user_of : Conference → ℕ → ℕ
user_of s n = option_map_or (λ m. m.user) (member_with s.members n) 0

-- some live member is a connection of this user
abbrev pub is_present : List Member → ℕ → Bool
is_present members user = list_any (λ m. m.user == user && m.is_live) members

-- how many messages were told to n and not acknowledged, and 0 where n never joined
abbrev pub backlog : Conference → ℕ → ℕ
backlog s n = option_map_or (λ m. m.backlog) (find (λ m. m.n == n) s.members) 0

-- n has joined and is told nothing more
abbrev pub is_cut : Conference → ℕ → Bool
is_cut s n = option_map_or (λ m. m.is_cut) (find (λ m. m.n == n) s.members) false

-- whom a connection of this user asks for: the conference, the user, and the users of the conference
abbrev pub binding_for : Conference → ℕ → Binding
binding_for s user = record { conference = s.config.conference; user = user; users = user_ids s.config.users }

-- whom n asks for
abbrev pub binding : Conference → ℕ → Binding
binding s n = binding_for s (user_of s n)
