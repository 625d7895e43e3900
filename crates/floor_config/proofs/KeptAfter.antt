-- A configuration that is changed keeps the limits.
use Rattle.std.proofs.Common.{◌≡◌, ℕ, ◌<◌, ◌≤◌, ◌==◌, ◌||◌, ◌&&◌, ◌++◌, Bool, true, false, cond, List, [], ◌∷◌, length, map, find, Option, Some, None, IfSome, All, Contains, is_some, refl, sym, ap, subst, ◌∙◌, arith, length-append}
use Rattle.std.specs.List.{list_any}
use Rattle.std.specs.Prelude.{nat_le, nat_lt, option_and_then}
use Rattle.std.proofs.lemmas.Bool.{and_parts, or_from, or_parts, false≢true}
use Rattle.std.proofs.lemmas.Bool.Decides.{nat_tests}
use Rattle.std.proofs.lemmas.List.{map-append, length-map}
use Rattle.std.proofs.lemmas.List.Folds.{list_any-append}
use Rattle.std.proofs.lemmas.List.Elements.{All-append, All-from_recursion, All-map, Contains-append_left}
use Rattle.floor_config.specs.declared.users.User.{User}
use Rattle.floor_config.specs.declared.floors.Floor.{Floor}
use Rattle.floor_config.specs.Configuration.{Configuration, IsConfiguration, IsUser, IsFloor, user_ids, floor_ids}
use Rattle.floor_config.specs.Doubles.{AllDiffer, has_double}
use Rattle.floor_config.specs.Lookup.{is_floor, is_user}
use Rattle.floor_config.specs.declared.fault.ConfigFault.TheVariants.{OutOfRange, DoubleUser, DoubleFloor, NoFloor, UnknownChair}
use Rattle.floor_config.specs.Building.{floor_fits, text_fits}
use Rattle.floor_config.specs.Limits.{is_known, unless_empty}
use Rattle.floor_config.specs.Changed.{added_user, chair_fault, chaired, floor_fault, floor_is_within, unknown_chair, user_fault, user_is_within, with_chair, with_floor, with_user}
use Rattle.floor_config.proofs.StandingTwice.{AllDiffer_none, none_AllDiffer}
use Rattle.floor_config.proofs.Limits.{chair_known}

-- a number that stands nowhere in a list, behind it
once-more : (xs : List ℕ) (x : ℕ) → has_double xs ≡ false → list_any (λ y. y == x) xs ≡ false → has_double (xs ++ x ∷ []) ≡ false
once-more [] x h n = refl
once-more (y ∷ ys) x h n =
    let d = or_parts (list_any (λ z. y == z) ys) (has_double ys) h in
    let m = or_parts (y == x) (list_any (λ z. z == x) ys) n in
    or_from (list_any (λ z. y == z) (ys ++ x ∷ [])) (has_double (ys ++ x ∷ []))
    (list_any-append (λ z. y == z) ys (x ∷ []) ∙ or_from (list_any (λ z. y == z) ys) ((y == x) || false) d.0 (or_from (y == x) false m.0 refl))
    (once-more ys x d.1 m.1)

differ-more : (xs : List ℕ) (x : ℕ) → AllDiffer xs → list_any (λ y. y == x) xs ≡ false → AllDiffer (xs ++ x ∷ [])
differ-more xs x h n = AllDiffer_none (xs ++ x ∷ []) (once-more xs x (none_AllDiffer xs h) n)

free-user : (users : List User) (id : ℕ) → is_some (find (λ u. u.id == id) users) ≡ false → list_any (λ y. y == id) (user_ids users) ≡ false
free-user [] id h = refl
free-user (u ∷ users) id h = by (u.id == id) (free-user users id) h
  where
    by : (t : Bool) → (is_some (find (λ v. v.id == id) users) ≡ false → list_any (λ y. y == id) (user_ids users) ≡ false) → is_some (cond t (Some u) (find (λ v. v.id == id) users)) ≡ false → (t || list_any (λ y. y == id) (user_ids users)) ≡ false
    by true rest k = absurd (false≢true (sym k))
    by false rest k = rest k

free-floor : (floors : List Floor) (id : ℕ) → is_floor floors id ≡ false → list_any (λ y. y == id) (floor_ids floors) ≡ false
free-floor [] id h = refl
free-floor (f ∷ floors) id h = let p = or_parts (f.id == id) (is_floor floors id) h in or_from (f.id == id) (list_any (λ y. y == id) (floor_ids floors)) p.0 (free-floor floors id p.1)

one : {X : Type 0} (P : X → Type 0) (x : X) → P x → All P (x ∷ [])
one P x h = All-from_recursion P (x ∷ []) (h, tt)

ids-more : (users : List User) (u : User) → user_ids (users ++ u ∷ []) ≡ user_ids users ++ u.id ∷ []
ids-more users u = map-append (λ v. v.id) users (u ∷ [])

chair-stays : (users : List User) (u : User) (chair : Option ℕ) → IfSome chair (Contains (user_ids users)) → IfSome chair (Contains (user_ids (users ++ u ∷ [])))
chair-stays users u None h = tt
chair-stays users u (Some chair) h = subst (λ (ids : List ℕ). Contains ids chair) (sym (ids-more users u)) (Contains-append_left (user_ids users) (u.id ∷ []) chair h)

pub kept_user : (c : Configuration) (u : User) → IsConfiguration c → IsUser (added_user u) → length c.users < 256 → is_user c u.id ≡ false → IsConfiguration (with_user c u)
kept_user c u is fits room free =
    record {
      conference = is.conference;
      limit_least = is.limit_least;
      limit_most = is.limit_most;
      connections_least = is.connections_least;
      connections_most = is.connections_most;
      users_count = omega (arith, room, length-append c.users (added_user u ∷ []));
      users = All-append IsUser c.users (added_user u ∷ []) is.users (one IsUser (added_user u) fits);
      users_differ = subst AllDiffer (sym (ids-more c.users (added_user u))) (differ-more (user_ids c.users) u.id is.users_differ (free-user c.users u.id free));
      floors_count = is.floors_count;
      floors = is.floors;
      floors_differ = is.floors_differ;
      chairs = λ k d within. chair-stays c.users (added_user u) _ (is.chairs k d within);
    }

pub kept_floor : (c : Configuration) (f : Floor) → IsConfiguration c → IsFloor f → length c.floors < 32 → is_floor c.floors f.id ≡ false → is_known c.users f.chair ≡ true → IsConfiguration (with_floor c f)
kept_floor c f is fits room free known =
    record {
      conference = is.conference;
      limit_least = is.limit_least;
      limit_most = is.limit_most;
      connections_least = is.connections_least;
      connections_most = is.connections_most;
      users_count = is.users_count;
      users = is.users;
      users_differ = is.users_differ;
      floors_count = omega (arith, room, length-append c.floors (f ∷ []));
      floors = All-append IsFloor c.floors (f ∷ []) is.floors (one IsFloor f fits);
      floors_differ = subst AllDiffer (sym (map-append (λ g. g.id) c.floors (f ∷ []))) (differ-more (floor_ids c.floors) f.id is.floors_differ (free-floor c.floors f.id free));
      chairs = let P : Floor → Type 0 = λ g. IfSome g.chair (Contains (user_ids c.users)) in All-append P c.floors (f ∷ []) is.chairs (one P f (chair_known c.users f.chair known));
    }

same-ids : (id : ℕ) (chair : Option ℕ) (floors : List Floor) → floor_ids (map (chaired id chair) floors) ≡ floor_ids floors
same-ids id chair [] = refl
same-ids id chair (f ∷ floors) = by (f.id == id) (same-ids id chair floors)
  where
    by : (t : Bool) → floor_ids (map (chaired id chair) floors) ≡ floor_ids floors → (cond t (record f { chair = chair }) f).id ∷ floor_ids (map (chaired id chair) floors) ≡ f.id ∷ floor_ids floors
    by true h = ap (λ l. f.id ∷ l) h
    by false h = ap (λ l. f.id ∷ l) h

floor-stays : (id : ℕ) (chair : Option ℕ) (f : Floor) → IsFloor f → IsFloor (chaired id chair f)
floor-stays id chair f is = by (f.id == id)
  where
    by : (t : Bool) → IsFloor (cond t (record f { chair = chair }) f)
    by true = record { id = is.id; room_least = is.room_least; room_most = is.room_most }
    by false = is

chair-set : (users : List User) (id : ℕ) (chair : Option ℕ) (f : Floor) → IfSome chair (Contains (user_ids users)) → IfSome f.chair (Contains (user_ids users)) → IfSome (chaired id chair f).chair (Contains (user_ids users))
chair-set users id chair f new old = by (f.id == id)
  where
    by : (t : Bool) → IfSome (cond t (record f { chair = chair }) f).chair (Contains (user_ids users))
    by true = new
    by false = old

pub kept_chair : (c : Configuration) (id : ℕ) (chair : Option ℕ) → IsConfiguration c → is_known c.users chair ≡ true → IsConfiguration (with_chair c id chair)
kept_chair c id chair is known =
    record {
      conference = is.conference;
      limit_least = is.limit_least;
      limit_most = is.limit_most;
      connections_least = is.connections_least;
      connections_most = is.connections_most;
      users_count = is.users_count;
      users = is.users;
      users_differ = is.users_differ;
      floors_count = omega (arith, is.floors_count, length-map c.floors (chaired id chair));
      floors = All-map IsFloor (chaired id chair) c.floors (λ k d within. floor-stays id chair _ (is.floors k d within));
      floors_differ = subst AllDiffer (sym (same-ids id chair c.floors)) is.floors_differ;
      chairs = let P : Floor → Type 0 = λ g. IfSome g.chair (Contains (user_ids c.users)) in
          All-map P (chaired id chair) c.floors (λ k d within. chair-set c.users id chair _ (chair_known c.users chair known) (is.chairs k d within));
    }

text-kept : (most : ℕ) (o : Option (List ℕ)) → text_fits most o ≡ true → IfSome (option_and_then unless_empty o) (λ text. (1 ≤ length text) × (length text ≤ most))
text-kept most None h = tt
text-kept most (Some text) h = by (length text == 0) refl
  where
    some : (n : ℕ) → (n == 0) ≡ false → 1 ≤ n
    some n e = grind (arith, nat_tests)

    short : (n m : ℕ) → nat_le n m ≡ true → n ≤ m
    short n m e = grind (arith, nat_tests)

    by : (b : Bool) → (length text == 0) ≡ b → IfSome (cond b None (Some text)) (λ text. (1 ≤ length text) × (length text ≤ most))
    by true e = tt
    by false e = (some (length text) e, short (length text) most h)

user-within : (u : User) → user_is_within u ≡ true → IsUser (added_user u)
user-within u h =
    let p = and_parts (nat_le u.id 65535) (text_fits 30 u.name && text_fits 62 u.uri) h in
    let q = and_parts (text_fits 30 u.name) (text_fits 62 u.uri) p.1 in
    record { id = small u.id p.0; name = text-kept 30 u.name q.0; uri = text-kept 62 u.uri q.1; port = tt }
  where
    small : (n : ℕ) → nat_le n 65535 ≡ true → n ≤ 65535
    small n e = grind (arith, nat_tests)

floor-within : (f : Floor) → floor_is_within f ≡ true → IsFloor f
floor-within f h =
    let p = and_parts (nat_le f.id 65535) (floor_fits f) h in
    let q = and_parts (nat_le 1 f.room) (nat_le f.room 255) p.1 in
    record { id = small f.id 65535 p.0; room_least = small 1 f.room q.0; room_most = small f.room 255 q.1 }
  where
    small : (n m : ℕ) → nat_le n m ≡ true → n ≤ m
    small n m e = grind (arith, nat_tests)

below : (n m : ℕ) → nat_lt n m ≡ true → n < m
below n m e = grind (arith, nat_tests)

-- a change that no fault stands against leaves a configuration
pub user_kept : (c : Configuration) (u : User) → IsConfiguration c → user_fault c u ≡ None → IsConfiguration (with_user c u)
user_kept c u is h = by (nat_lt (length c.users) 256) (user_is_within u) (is_user c u.id) refl refl refl h
  where
    by : (a b d : Bool) → nat_lt (length c.users) 256 ≡ a → user_is_within u ≡ b → is_user c u.id ≡ d → cond (a && b) (cond d (Some DoubleUser) None) (Some OutOfRange) ≡ None → IsConfiguration (with_user c u)
    by true true true e f g h = cc
    by true true false e f g h = kept_user c u is (user-within u f) (below (length c.users) 256 e) g
    by true false d e f g h = cc
    by false b d e f g h = cc

pub floor_kept : (c : Configuration) (floor : Floor) → IsConfiguration c → floor_fault c floor ≡ None → IsConfiguration (with_floor c floor)
floor_kept c floor is h = by (nat_lt (length c.floors) 32) (floor_is_within floor) (is_floor c.floors floor.id) (is_known c.users floor.chair) refl refl refl refl h
  where
    by : (a b d k : Bool) → nat_lt (length c.floors) 32 ≡ a → floor_is_within floor ≡ b → is_floor c.floors floor.id ≡ d → is_known c.users floor.chair ≡ k →
        cond (a && b) (cond d (Some DoubleFloor) (cond k None (Some UnknownChair))) (Some OutOfRange) ≡ None → IsConfiguration (with_floor c floor)
    by true true true k e f g i h = cc
    by true true false true e f g i h = kept_floor c floor is (floor-within floor f) (below (length c.floors) 32 e) g i
    by true true false false e f g i h = cc
    by true false d k e f g i h = cc
    by false b d k e f g i h = cc

pub chair_kept : (c : Configuration) (id : ℕ) (chair : Option ℕ) → IsConfiguration c → chair_fault c id chair ≡ None → IsConfiguration (with_chair c id chair)
chair_kept c id chair is h = by (is_floor c.floors id) (is_known c.users chair) refl h
  where
    by : (a k : Bool) → is_known c.users chair ≡ k → cond a (cond k None (Some UnknownChair)) (Some NoFloor) ≡ None → IsConfiguration (with_chair c id chair)
    by true true e h = kept_chair c id chair is e
    by true false e h = cc
    by false k e h = cc

-- a floor that may be added has another id than all others, and room
pub floor_free : (c : Configuration) (floor : Floor) → floor_fault c floor ≡ None → (is_floor c.floors floor.id ≡ false) × (1 ≤ floor.room)
floor_free c floor h = by (nat_lt (length c.floors) 32) (floor_is_within floor) (is_floor c.floors floor.id) refl h
  where
    by : (a b d : Bool) → floor_is_within floor ≡ b → cond (a && b) (cond d (Some DoubleFloor) (unknown_chair c floor.chair)) (Some OutOfRange) ≡ None → (d ≡ false) × (1 ≤ floor.room)
    by true true true e h = cc
    by true true false e h = (refl, IsFloor.room_least (floor-within floor e))
    by true false d e h = cc
    by false b d e h = cc
