-- A configuration that keeps the limits passes each test as it is.
use Rattle.std.proofs.Common.{◌≡◌, refl, ℕ, zero, suc, ◌≤◌, ◌<◌, ◌==◌, ◌&&◌, nat_le, true, false, List, [], ◌∷◌, length, get_or, map, Option, Some, None, IfSome, Contains, option_and_then, arith}
use Rattle.std.specs.List.{list_any, list_all, AllByRecursion}
use Rattle.std.proofs.lemmas.Bool.{and_from, le-leb, ne_eqb, eq-eqb, or_right}
use Rattle.std.proofs.lemmas.List.Elements.{recursion_from_All}
use Rattle.floor_config.specs.declared.users.User.{User}
use Rattle.floor_config.specs.declared.floors.Floor.{Floor}
use Rattle.floor_config.specs.Configuration.{IsUser, IsFloor, user_ids, floor_ids}
use Rattle.floor_config.specs.Doubles.{has_double}
use Rattle.floor_config.specs.Limits.{is_within, unless_empty, is_known, chairs_are_known}
use Rattle.floor_config.specs.Building.{text_fits, port_fits, user_fits, users_fit, floor_fits, floors_fit, without_empty_texts, built, KeptIsBuilt}
use Rattle.floor_config.proofs.StandingTwice.{none_AllDiffer}

-- a text that isn't empty stays
text_stays : (most : ℕ) (text : Option (List ℕ)) → IfSome text (λ t. (1 ≤ length t) × (length t ≤ most)) → option_and_then unless_empty text ≡ text
text_stays most None h = refl
text_stays most (Some t) h = rw (ne_eqb (length t) 0 (λ empty. omega (arith, h.0, empty))) refl

text_passes : (most : ℕ) (text : Option (List ℕ)) → IfSome text (λ t. (1 ≤ length t) × (length t ≤ most)) → text_fits most text ≡ true
text_passes most None h = refl
text_passes most (Some t) h = le-leb (length t) most h.1

port_passes : (port : Option ℕ) → IfSome port (λ p. (1 ≤ p) × (p ≤ 65535)) → port_fits port ≡ true
port_passes None h = refl
port_passes (Some p) h = le-leb 1 p h.0

user_stays : (u : User) → IsUser u → without_empty_texts u ≡ u
user_stays u is = rw (text_stays 30 u.name is.name, text_stays 62 u.uri is.uri) refl

user_passes : (u : User) → IsUser u → user_fits u ≡ true
user_passes u is = and_from (text_fits 30 u.name) (text_fits 62 u.uri && port_fits u.port) (text_passes 30 u.name is.name) (and_from (text_fits 62 u.uri) (port_fits u.port) (text_passes 62 u.uri is.uri) (port_passes u.port is.port))

users_stay : (users : List User) → AllByRecursion IsUser users → map without_empty_texts users ≡ users
users_stay [] h = refl
users_stay (u ∷ users) h = rw (user_stays u h.0, users_stay users h.1) refl

users_pass : (users : List User) → AllByRecursion IsUser users → list_all user_fits users ≡ true
users_pass [] h = refl
users_pass (u ∷ users) h = and_from (user_fits u) (list_all user_fits users) (user_passes u h.0) (users_pass users h.1)

floor_passes : (f : Floor) → IsFloor f → floor_fits f ≡ true
floor_passes f is = and_from (nat_le 1 f.room) (nat_le f.room 255) (le-leb 1 f.room is.room_least) (le-leb f.room 255 is.room_most)

floors_pass : (floors : List Floor) → AllByRecursion IsFloor floors → list_all floor_fits floors ≡ true
floors_pass [] h = refl
floors_pass (f ∷ floors) h = and_from (floor_fits f) (list_all floor_fits floors) (floor_passes f h.0) (floors_pass floors h.1)

user_at : (users : List User) (chair k : ℕ) → k < length (user_ids users) → get_or (user_ids users) k chair ≡ chair → list_any (λ u. u.id == chair) users ≡ true
user_at [] chair k lt is = absurd (omega (arith, lt))
user_at (u ∷ users) chair zero lt is = rw (eq-eqb u.id chair is) refl
user_at (u ∷ users) chair (suc k) lt is = or_right (u.id == chair) (list_any (λ v. v.id == chair) users) (user_at users chair k (omega (arith, lt)) is)

chair_passes : (users : List User) (chair : Option ℕ) → IfSome chair (Contains (user_ids users)) → is_known users chair ≡ true
chair_passes users None h = refl
chair_passes users (Some chair) h = user_at users chair h.0 h.1 h.2

chairs_pass : (users : List User) (floors : List Floor) → AllByRecursion (λ f. IfSome f.chair (Contains (user_ids users))) floors → chairs_are_known users floors ≡ true
chairs_pass users [] h = refl
chairs_pass users (f ∷ floors) h = and_from (is_known users f.chair) (chairs_are_known users floors) (chair_passes users f.chair h.0) (chairs_pass users floors h.1)

pub kept_is_built : KeptIsBuilt
unfolding built
kept_is_built c is =
    let limit : is_within 1 16 c.limit ≡ true = and_from (nat_le 1 c.limit) (nat_le c.limit 16) (le-leb 1 c.limit is.limit_least) (le-leb c.limit 16 is.limit_most) in
    let connections : is_within 1 64 c.connections ≡ true = and_from (nat_le 1 c.connections) (nat_le c.connections 64) (le-leb 1 c.connections is.connections_least) (le-leb c.connections 64 is.connections_most) in
    let each_user = recursion_from_All IsUser c.users is.users in
    let each_floor = recursion_from_All IsFloor c.floors is.floors in
    let users : users_fit c.users ≡ true = and_from (nat_le (length c.users) 256) (list_all user_fits c.users) (le-leb (length c.users) 256 is.users_count) (users_pass c.users each_user) in
    let floors : floors_fit c.floors ≡ true = and_from (nat_le (length c.floors) 32) (list_all floor_fits c.floors) (le-leb (length c.floors) 32 is.floors_count) (floors_pass c.floors each_floor) in
    let users_differ : has_double (user_ids c.users) ≡ false = none_AllDiffer (user_ids c.users) is.users_differ in
    let floors_differ : has_double (floor_ids c.floors) ≡ false = none_AllDiffer (floor_ids c.floors) is.floors_differ in
    let chairs : chairs_are_known c.users c.floors ≡ true = chairs_pass c.users c.floors (recursion_from_All (λ f. IfSome f.chair (Contains (user_ids c.users))) c.floors is.chairs) in
    rw (limit, connections, users, users_differ, floors, floors_differ, chairs, users_stay c.users each_user) refl
