-- The statuses of the floors that live members watch are all that is told of floors.
use Rattle.std.proofs.Common.{◌≡◌, ℕ, Bool, true, false, cond, List, [], ◌∷◌, map, Some, refl, ap, ◌∙◌}
use Rattle.std.specs.Prelude.{◌==◌, ◌&&◌, ◌||◌, filter, All}
use Rattle.std.proofs.lemmas.Bool.{or_right}
use Rattle.std.proofs.lemmas.List.Elements.{All-nil, All-cons, All-head, All-tail}
use Rattle.floor_config.specs.declared.floors.Floor.{Floor}
use Rattle.floor_message.specs.declared.information.Info.{Info}
use Rattle.floor_machine.specs.declared.member.Member.{Member}
use Rattle.floor_machine.specs.Conference.{member_with}
use Rattle.floor_machine.specs.steps.Outcomes.{FloorUpdate}
use Rattle.floor_machine.specs.steps.Telling.{floor_update, floors_changed, is_one_of, is_to_notice, is_watched, is_watched_by}

-- the statuses of the changed floors that live members watch are those that are watched of the statuses of the changed floors
pub updates-watched : (now : List Info) (changed : List ℕ) (members : List Member) (floors : List Floor) →
    map (floor_update now) (filter (is_to_notice members changed) floors) ≡ filter (is_watched_by members) (floors_changed now changed floors)
updates-watched now changed members [] = refl
updates-watched now changed members (f ∷ floors) = by (is_one_of changed f) (updates-watched now changed members floors)
  where
    watched : (w : Bool) → map (floor_update now) (filter (is_to_notice members changed) floors) ≡ filter (is_watched_by members) (floors_changed now changed floors) →
        map (floor_update now) (cond w (f ∷ filter (is_to_notice members changed) floors) (filter (is_to_notice members changed) floors))
        ≡ cond w (floor_update now f ∷ filter (is_watched_by members) (floors_changed now changed floors)) (filter (is_watched_by members) (floors_changed now changed floors))
    watched true h = ap (λ (us : List FloorUpdate). floor_update now f ∷ us) h
    watched false h = h

    by : (c : Bool) → map (floor_update now) (filter (is_to_notice members changed) floors) ≡ filter (is_watched_by members) (floors_changed now changed floors) →
        map (floor_update now) (cond (c && is_watched_by members (floor_update now f)) (f ∷ filter (is_to_notice members changed) floors) (filter (is_to_notice members changed) floors))
        ≡ filter (is_watched_by members) (map (floor_update now) (cond c (f ∷ filter (is_one_of changed) floors) (filter (is_one_of changed) floors)))
    by true h = watched (is_watched_by members (floor_update now f)) h
    by false h = h

-- what a live member watches is watched
pub watched-found : (members : List Member) (n : ℕ) (m : Member) → member_with members n ≡ Some m → (u : FloorUpdate) → is_watched m u ≡ true → is_watched_by members u ≡ true
watched-found [] n m e u w = absurd cc
watched-found (x ∷ members) n m e u w = by (x.n == n) x.is_live e (watched-found members n m)
  where
    first : Some x ≡ Some m → is_watched x u ≡ true
    first e = let same : x ≡ m = cc in ap (λ (x : Member). is_watched x u) same ∙ w

    rest : (l : Bool) → (member_with members n ≡ Some m → (u : FloorUpdate) → is_watched m u ≡ true → is_watched_by members u ≡ true) → member_with members n ≡ Some m →
        ((l && is_watched x u) || is_watched_by members u) ≡ true
    rest l h e = or_right (l && is_watched x u) (is_watched_by members u) (h e u w)

    by : (b l : Bool) → cond (b && l) (Some x) (member_with members n) ≡ Some m →
        (member_with members n ≡ Some m → (u : FloorUpdate) → is_watched m u ≡ true → is_watched_by members u ≡ true) → ((l && is_watched x u) || is_watched_by members u) ≡ true
    by true true e h = rw (first e) refl
    by true false e h = rest false h e
    by false l e h = rest l h e

-- what is picked of what is made and passes was among it
pub picked_through : {A B U : Type 0} (P : U → Type 0) (Q : B → Type 0) (g : A → U) (f : A → B) (p : A → Bool) (w : U → Bool) (xs : List A) →
    ((x : A) → p x ≡ true → w (g x) ≡ true) → ((x : A) → P (g x) → Q (f x)) → All P (filter w (map g xs)) → All Q (map f (filter p xs))
picked_through P Q g f p w [] passes made h = All-nil Q
picked_through {A = A} {B = B} {U = U} P Q g f p w (x ∷ xs) passes made h = by (p x) (w (g x)) (passes x) h (picked_through P Q g f p w xs passes made)
  where
    by : (b k : Bool) → (b ≡ true → k ≡ true) → All P (cond k (g x ∷ filter w (map g xs)) (filter w (map g xs))) → (All P (filter w (map g xs)) → All Q (map f (filter p xs))) →
        All Q (map f (cond b (x ∷ filter p xs) (filter p xs)))
    by true true e h rest = All-cons Q (f x) (map f (filter p xs)) (made x (All-head P (g x) (filter w (map g xs)) h)) (rest (All-tail P (g x) (filter w (map g xs)) h))
    by true false e h rest = absurd (let clash : false ≡ true = e refl in cc)
    by false true e h rest = rest (All-tail P (g x) (filter w (map g xs)) h)
    by false false e h rest = rest h
