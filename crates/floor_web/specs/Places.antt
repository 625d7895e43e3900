-- The places of the connections of browsers that go on, and who holds them.
use Rattle.std.specs.Prelude.{◌≡◌, ℕ, Bool, true, false, ◌&&◌, ◌==◌, nat_le, List, length, filter, remove, Option, Some, None, if◌then◌else◌}
use Rattle.std.specs.List.{position}
use Rattle.floor_web.specs.declared.places.Holder.{Holder}
use Rattle.floor_web.specs.declared.places.NoPlace.{NoPlace}
use Rattle.floor_web.specs.declared.places.NoPlace.TheVariants.{OfUser, OfNetwork, OfAll, Memory}

-- how many places there are, and who holds one
pub record Places : Type 0 where
  pub most : ℕ
  pub holders : List Holder

abbrev pub is_of_user : (conference user : ℕ) → Holder → Bool
is_of_user conference user h = (h.conference == conference) && (h.user == user)

abbrev pub is_network : Option ℕ → ℕ → Bool
is_network None n = false
is_network (Some m) n = m == n

-- how many places a user holds
abbrev pub of_user : (conference user : ℕ) → List Holder → ℕ
of_user conference user holders = length (filter (is_of_user conference user) holders)

-- how many places a network holds; none is counted of connections that come from no network
abbrev pub of_network : Option ℕ → List Holder → ℕ
of_network None holders = 0
of_network (Some n) holders = length (filter (λ (h : Holder). is_network h.network n) holders)

-- why a place isn't granted: a user holds 16 at most, a network 64, and all together no more than there are
abbrev pub refusal : Places → Holder → Option NoPlace
refusal places h =
    if nat_le 16 (of_user h.conference h.user places.holders) then Some OfUser
    else if nat_le 64 (of_network h.network places.holders) then Some OfNetwork
    else if nat_le places.most (length places.holders) then Some OfAll
    else None

abbrev pub is_same_network : Option ℕ → Option ℕ → Bool
is_same_network None None = true
is_same_network (Some m) n = is_network n m
is_same_network None (Some n) = false

abbrev pub is_same : Holder → Holder → Bool
is_same h other = is_of_user h.conference h.user other && is_same_network h.network other.network

abbrev pub without : Option ℕ → List Holder → List Holder
without None holders = holders
without (Some place) holders = remove holders place

-- one of the places that this holder holds is free again
abbrev pub given_back : Holder → Places → Places
given_back h places = record places { holders = without (position (is_same h) places.holders) places.holders }

-- a place is refused for this reason, or for want of memory alone
abbrev pub Refuses : Places → Holder → NoPlace → Type 0
Refuses places h OfUser = refusal places h ≡ Some OfUser
Refuses places h OfNetwork = refusal places h ≡ Some OfNetwork
Refuses places h OfAll = refusal places h ≡ Some OfAll
Refuses places h Memory = refusal places h ≡ None
