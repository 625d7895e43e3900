-- Deadlines, as they are put and are no more.
use Rattle.std.proofs.Common.{◌≡◌, ◌≢◌, ℕ, zero, suc, ◌+◌, ◌<◌, ◌≤◌, Bool, true, false, cond, List, [], ◌∷◌, ◌++◌, length, get_or, get_or-set_other, Option, Some, None, refl, sym, ap, ◌∙◌, arith, subst, inl, inr, nat_eq}
use Rattle.std.specs.Prelude.{◌⊎◌, All, Contains, IfNone, IfSome, count_by, is_some}
use Rattle.std.proofs.Math.ListN.{set}
use Rattle.std.proofs.lemmas.Bool.Decides.{eqb_tells}
use Rattle.std.proofs.lemmas.List.Elements.{All-cons, All-head, All-nil, All-push, All-tail, Contains-append_left}
use Rattle.std.proofs.lemmas.List.Sums.{sum_by-cons, sum_by-set, sum_by_push}
use Rattle.slab.specs.Slab.{Slab, Updates, get, slab_len}
use Rattle.floor_sockets.specs.declared.deadlines.Deadline.{Deadline}
use Rattle.floor_sockets.specs.declared.life.Deed.{Deed}
use Rattle.floor_sockets.specs.declared.life.Life.{Life}
use Rattle.floor_sockets.specs.declared.role.Role.{Role}
use Rattle.floor_sockets.specs.Life.{is_awaiting, opened}
use Rattle.floor_sockets.specs.Rounds.{Rounds, times}
use Rattle.floor_sockets.specs.Sockets.{due_times, with_due, without}
use Rattle.floor_sockets.specs.steps.Due.{Deadlines}
use Rattle.floor_sockets.specs.steps.Listed.{HasLife, IsListed, IsOnce, IsSound, NextIn}
use Rattle.floor_sockets.proofs.Listing.{alive_kept, alive_without}
use Rattle.floor_sockets.proofs.Turning.{eq_yes, none_of, not_both, one_of}

due-cons : (d : Deadline) (ds : List Deadline) (k : ℕ) → due_times (d ∷ ds) k ≡ cond (nat_eq d.slot k) 1 0 + due_times ds k
due-cons d ds k = sum_by-cons (λ (e : Deadline). cond (nat_eq e.slot k) 1 0) d ds

due-push : (ds : List Deadline) (d : Deadline) (k : ℕ) → due_times (ds ++ d ∷ []) k ≡ due_times ds k + cond (nat_eq d.slot k) 1 0
due-push ds d k = sum_by_push (λ (e : Deadline). cond (nat_eq e.slot k) 1 0) ds d

-- without those of a slot no other has more
without-le : (ds : List Deadline) (slot k : ℕ) → due_times (without slot ds) k ≤ due_times ds k
without-le [] slot k = omega arith
without-le (d ∷ ds) slot k = by (nat_eq d.slot slot) refl (without-le ds slot k)
  where
    by : (b : Bool) → nat_eq d.slot slot ≡ b → due_times (without slot ds) k ≤ due_times ds k → due_times (without slot (d ∷ ds)) k ≤ due_times (d ∷ ds) k
    by true e h = rw e (omega (arith, due-cons d ds k, h))
    by false e h = rw e (omega (arith, due-cons d ds k, due-cons d (without slot ds) k, h))

-- and the slot has none
without-none : (ds : List Deadline) (slot : ℕ) → due_times (without slot ds) slot ≡ 0
without-none [] slot = refl
without-none (d ∷ ds) slot = by (nat_eq d.slot slot) refl (without-none ds slot)
  where
    by : (b : Bool) → nat_eq d.slot slot ≡ b → due_times (without slot ds) slot ≡ 0 → due_times (without slot (d ∷ ds)) slot ≡ 0
    by true e h = rw e h
    by false e h = rw e (due-cons d (without slot ds) slot ∙ ap (λ (n : ℕ). n + due_times (without slot ds) slot) (none_of (nat_eq d.slot slot) e) ∙ ap (λ (n : ℕ). 0 + n) h)

pub few_without : (ds : List Deadline) (slot : ℕ) → ((k : ℕ) → due_times ds k ≤ 1) → (k : ℕ) → due_times (without slot ds) k ≤ 1
few_without ds slot few k = let h = without-le ds slot k in let f = few k in omega (arith, h, f)

pub few_where : (b : Bool) (ds : List Deadline) (slot : ℕ) → ((k : ℕ) → due_times ds k ≤ 1) → (k : ℕ) → due_times (cond b (without slot ds) ds) k ≤ 1
few_where false ds slot few = few
few_where true ds slot few = few_without ds slot few

pub few_with : (b : Bool) (slot until : ℕ) (ds : List Deadline) → ((k : ℕ) → due_times ds k ≤ 1) → (k : ℕ) → due_times (with_due b slot until ds) k ≤ 1
few_with false slot until ds few = few
few_with true slot until ds few = λ k. by k (eqb_tells slot k)
  where
    by : (k : ℕ) → (((nat_eq slot k ≡ true) × (slot ≡ k)) ⊎ ((nat_eq slot k ≡ false) × (slot ≢ k))) → due_times (without slot ds ++ record { slot = slot; until = until } ∷ []) k ≤ 1
    by k (inl u) =
        let pushed = due-push (without slot ds) (record { slot = slot; until = until }) k in
        let none : due_times (without slot ds) k ≡ 0 = subst (λ (z : ℕ). due_times (without slot ds) z ≡ 0) u.1 (without-none ds slot) in
        let one = one_of (nat_eq slot k) u.0 in
        omega (arith, pushed, none, one)
    by k (inr u) =
        let pushed = due-push (without slot ds) (record { slot = slot; until = until }) k in
        let fewer = few_without ds slot few k in
        let none = none_of (nat_eq slot k) u.0 in
        omega (arith, pushed, fewer, none)

-- a deadline of a slot that has a socket was put, where the test says so
pub alive_with : (lives : Slab Life) (b : Bool) (slot until : ℕ) (ds : List Deadline) → is_some (get lives slot) ≡ true → All (HasLife lives) ds → All (HasLife lives) (with_due b slot until ds)
alive_with lives false slot until ds there alive = alive
alive_with lives true slot until ds there alive =
    All-push (HasLife lives) (without slot ds) (record { slot = slot; until = until }) (alive_without lives lives slot ds (λ k e. refl) alive) there

-- whoever had a socket has one still, where one more was opened
pub opened_kept : (old new : Slab Life) (slot : ℕ) (life : Life) → Updates old new slot (Some life) → (k : ℕ) → is_some (get old k) ≡ true → is_some (get new k) ≡ true
opened_kept old new slot life u k was = by (eqb_tells slot k)
  where
    by : (((nat_eq slot k ≡ true) × (slot ≡ k)) ⊎ ((nat_eq slot k ≡ false) × (slot ≢ k))) → is_some (get new k) ≡ true
    by (inl v) = subst (λ (z : ℕ). is_some (get new z) ≡ true) v.1 (ap (λ (z : Option Life). is_some z) u.changed)
    by (inr v) = ap (λ (z : Option Life). is_some z) (u.others k (λ e. v.1 (sym e))) ∙ was

pub opened_there : (old new : Slab Life) (slot : ℕ) (life : Life) → Updates old new slot (Some life) → is_some (get new slot) ≡ true
opened_there old new slot life u = ap (λ (z : Option Life). is_some z) u.changed

-- of a socket that was opened nothing is to be asked
pub opened_listed : (old new : Slab Life) (line : Rounds) (slot : ℕ) (role : Role) (group : ℕ) → Updates old new slot (Some (opened role group)) → IsListed old line → IsListed new line
opened_listed old new line slot role group u listed k l is waits = by (eqb_tells slot k)
  where
    some_is : (x y : Life) → Some x ≡ Some y → x ≡ y
    some_is x y e = cc

    by : (((nat_eq slot k ≡ true) × (slot ≡ k)) ⊎ ((nat_eq slot k ≡ false) × (slot ≢ k))) → times line k ≡ 1
    by (inl v) =
        let same = some_is (opened role group) l (sym u.changed ∙ ap (get new) v.1 ∙ is) in
        not_both (sym waits ∙ ap is_awaiting (sym same))
    by (inr v) = listed k l (sym (u.others k (λ e. v.1 (sym e))) ∙ is) waits

-- the deadlines of others are the same
pub stays_without : (ds : List Deadline) (d : Deadline) (slot : ℕ) → d.slot ≢ slot → Contains ds d → Contains (without slot ds) d
stays_without [] d slot ne h = absurd (omega (arith, h.1))
stays_without (e ∷ ds) d slot ne h = by (λ i b is. stays_without ds d slot ne (i, b, is)) (eqb_tells e.slot slot) h.0 h.1 h.2
  where
    from_cons : (y : Deadline) (ys : List Deadline) → Contains ys d → Contains (y ∷ ys) d
    from_cons y ys c = (suc c.0, omega (arith, c.1), c.2)

    behind : (i : ℕ) → suc i < length (e ∷ ds) → i < length ds
    behind i b = omega (arith, b)

    by : ((i : ℕ) → i < length ds → get_or ds i d ≡ d → Contains (without slot ds) d)
        → (((nat_eq e.slot slot ≡ true) × (e.slot ≡ slot)) ⊎ ((nat_eq e.slot slot ≡ false) × (e.slot ≢ slot))) → (i : ℕ) → i < length (e ∷ ds) → get_or (e ∷ ds) i d ≡ d → Contains (without slot (e ∷ ds)) d
    by rec (inl u) zero b is = absurd (ne (ap (λ (z : Deadline). z.slot) (sym is) ∙ u.1))
    by rec (inl u) (suc i) b is = rw u.0 (rec i (behind i b) is)
    by rec (inr u) zero b is = rw u.0 (0, omega arith, is)
    by rec (inr u) (suc i) b is = rw u.0 (from_cons e (without slot ds) (rec i (behind i b) is))

pub stays_with : (b : Bool) (ds : List Deadline) (d : Deadline) (slot until : ℕ) → d.slot ≢ slot → Contains ds d → Contains (with_due b slot until ds) d
stays_with false ds d slot until ne h = h
stays_with true ds d slot until ne h = Contains-append_left (without slot ds) (record { slot = slot; until = until } ∷ []) d (stays_without ds d slot ne h)

-- there is room for the deadline of each socket -----------------------------------------------------

-- the slot has a socket
abbrev pub LivesIn : List (Option Life) → Deadline → Type 0
LivesIn slots d = is_some (get_or slots d.slot None) ≡ true

there_in : (slots : List (Option Life)) (k : ℕ) → is_some (get_or slots k None) ≡ true → k < length slots
there_in [] zero e = not_both (sym e)
there_in [] (suc k) e = not_both (sym e)
there_in (o ∷ slots) zero e = omega arith
there_in (o ∷ slots) (suc k) e = let h = there_in slots k e in omega (arith, h)

-- one socket is no more, of which none of these is a deadline
others_live : (ds : List Deadline) (slots : List (Option Life)) (k : ℕ) → due_times ds k ≡ 0 → All (LivesIn slots) ds → All (LivesIn (set slots k None)) ds
others_live [] slots k none alive = All-nil (LivesIn (set slots k None))
others_live (d ∷ ds) slots k none alive =
    by (eqb_tells d.slot k) (due-cons d ds k) none (All-head (LivesIn slots) d ds alive) (λ rest. others_live ds slots k rest (All-tail (LivesIn slots) d ds alive))
  where
    by : (((nat_eq d.slot k ≡ true) × (d.slot ≡ k)) ⊎ ((nat_eq d.slot k ≡ false) × (d.slot ≢ k))) → due_times (d ∷ ds) k ≡ cond (nat_eq d.slot k) 1 0 + due_times ds k → due_times (d ∷ ds) k ≡ 0 → LivesIn slots d
        → (due_times ds k ≡ 0 → All (LivesIn (set slots k None)) ds) → All (LivesIn (set slots k None)) (d ∷ ds)
    by (inl u) sums free live rec = let one = one_of (nat_eq d.slot k) u.0 in absurd (omega (arith, sums, free, one))
    by (inr u) sums free live rec =
        let zero_times = none_of (nat_eq d.slot k) u.0 in
        let rest : due_times ds k ≡ 0 = omega (arith, sums, free, zero_times) in
        let here : LivesIn (set slots k None) d = ap (λ (o : Option Life). is_some o) (get_or-set_other slots k d.slot None None u.1) ∙ live in
        All-cons (LivesIn (set slots k None)) d ds here (rec rest)

-- deadlines of which no two are of one slot are no more than sockets
few_fit : (ds : List Deadline) (slots : List (Option Life)) → All (LivesIn slots) ds → ((k : ℕ) → due_times ds k ≤ 1) → length ds ≤ count_by is_some slots
few_fit [] slots alive few = omega arith
few_fit (d ∷ ds) slots alive few =
    let live = All-head (LivesIn slots) d ds alive in
    let sums = sum_by-set (λ (o : Option Life). cond (is_some o) 1 0) slots d.slot None None (there_in slots d.slot live) in
    let one = one_of (is_some (get_or slots d.slot None)) live in
    let counted = due-cons d ds d.slot in
    let own = one_of (nat_eq d.slot d.slot) (eq_yes d.slot d.slot refl) in
    let most = few d.slot in
    let rest : due_times ds d.slot ≡ 0 = omega (arith, counted, own, most) in
    let fewer = few_fit ds (set slots d.slot None) (others_live ds slots d.slot rest (All-tail (LivesIn slots) d ds alive)) (λ k. let c = due-cons d ds k in let m = few k in omega (arith, c, m)) in
    fits (length ds) (count_by is_some (set slots d.slot None)) (count_by is_some slots) (cond (is_some (get_or slots d.slot None)) 1 0) fewer sums one
  where
    fits : (n a b c : ℕ) → n ≤ a → a + c ≡ b + 0 → c ≡ 1 → suc n ≤ b
    fits n a b c e f g = omega (arith, e, f, g)

-- so without those of a socket they are fewer
pub room_for : (lives : Slab Life) (ds : List Deadline) (slot : ℕ) → All (HasLife lives) ds → ((k : ℕ) → due_times ds k ≤ 1) → is_some (get lives slot) ≡ true → length (without slot ds) < slab_len lives
room_for lives ds slot alive few there =
    few_fit (record { slot = slot; until = 0 } ∷ without slot ds) lives.slots
    (All-cons (LivesIn lives.slots) (record { slot = slot; until = 0 }) (without slot ds) there (alive_without lives lives slot ds (λ k e. refl) alive))
    (λ k. by k (eqb_tells slot k))
  where
    by : (k : ℕ) → (((nat_eq slot k ≡ true) × (slot ≡ k)) ⊎ ((nat_eq slot k ≡ false) × (slot ≢ k))) → due_times (record { slot = slot; until = 0 } ∷ without slot ds) k ≤ 1
    by k (inl u) =
        let counted = due-cons (record { slot = slot; until = 0 }) (without slot ds) k in
        let none : due_times (without slot ds) k ≡ 0 = subst (λ (z : ℕ). due_times (without slot ds) z ≡ 0) u.1 (without-none ds slot) in
        let one = one_of (nat_eq slot k) u.0 in
        omega (arith, counted, none, one)
    by k (inr u) =
        let counted = due-cons (record { slot = slot; until = 0 }) (without slot ds) k in
        let fewer = few_without ds slot few k in
        let none = none_of (nat_eq slot k) u.0 in
        omega (arith, counted, fewer, none)

-- and they are no more than sockets
pub no_more_than : (lives : Slab Life) (ds : List Deadline) → All (HasLife lives) ds → ((k : ℕ) → due_times ds k ≤ 1) → length ds ≤ slab_len lives
no_more_than lives ds alive few = few_fit ds lives.slots alive few

-- where one of the slot may be put
pub room_in : (lives : Slab Life) (line : Rounds) (is : Bool) (ds : Deadlines) (slot : ℕ) → IsSound lives line is ds → is_some (get lives slot) ≡ true → length (without slot ds.items) < ds.room
room_in lives line is ds slot sound there = let few = room_for lives ds.items slot sound.alive sound.few there in let room = sound.room in omega (arith, few, room)

pub without-shorter : (ds : List Deadline) (slot : ℕ) → length (without slot ds) ≤ length ds
without-shorter [] slot = omega arith
without-shorter (d ∷ ds) slot = by (nat_eq d.slot slot) refl (without-shorter ds slot)
  where
    by : (b : Bool) → nat_eq d.slot slot ≡ b → length (without slot ds) ≤ length ds → length (without slot (d ∷ ds)) ≤ length (d ∷ ds)
    by true e h = rw e (omega (arith, h))
    by false e h = rw e (omega (arith, h))

-- the whole table, where what is known of sockets changes, and where a deadline is put -----------------

pub set_sound : (old new : Slab Life) (line after : Rounds) (was is : Bool) (ds es : Deadlines) → IsSound old line was ds → es.items ≡ ds.items → slab_len new ≤ es.room
    → (is ≡ false → (was ≡ false → IsListed old line) → IsListed new after) → (IsOnce line → IsOnce after) → ((k : ℕ) → is_some (get old k) ≡ true → is_some (get new k) ≡ true) → IsSound new after is es
set_sound old new line after was is ds es sound same room listed once kept = record {
  listed = λ e. listed e sound.listed;
  alive = subst (λ (z : List Deadline). All (HasLife new) z) (sym same) (alive_kept old new ds.items kept sound.alive);
  once = once sound.once;
  few = subst (λ (z : List Deadline). (k : ℕ) → due_times z k ≤ 1) (sym same) sound.few;
  room = room;
}

-- where as many sockets are there as before
pub same_sound : (old new : Slab Life) (line after : Rounds) (was is : Bool) (ds : Deadlines) → IsSound old line was ds → slab_len new ≡ slab_len old
    → (is ≡ false → (was ≡ false → IsListed old line) → IsListed new after) → (IsOnce line → IsOnce after) → ((k : ℕ) → is_some (get old k) ≡ true → is_some (get new k) ≡ true) → IsSound new after is ds
same_sound old new line after was is ds sound len listed once kept =
    set_sound old new line after was is ds ds sound refl (let room = sound.room in omega (arith, len, room)) listed once kept

pub put_sound : (lives : Slab Life) (line : Rounds) (is b : Bool) (slot until : ℕ) (ds es : Deadlines) → IsSound lives line is ds → es.items ≡ with_due b slot until ds.items → es.room ≡ ds.room → is_some (get lives slot) ≡ true
    → IsSound lives line is es
put_sound lives line is b slot until ds es sound next room there = record {
  listed = sound.listed;
  alive = subst (λ (z : List Deadline). All (HasLife lives) z) (sym next) (alive_with lives b slot until ds.items there sound.alive);
  once = sound.once;
  few = subst (λ (z : List Deadline). (k : ℕ) → due_times z k ≤ 1) (sym next) (few_with b slot until ds.items sound.few);
  room = let old = sound.room in omega (arith, room, old);
}

-- whoever had a socket has one still, where one was asked, or none
pub turn_kept : (r : Option Deed) (old new : Slab Life) (before after : Rounds) (was is : Bool) → IfSome r (NextIn old new before after was is) → IfNone r ((k : ℕ) → get new k ≡ get old k) → (k : ℕ) → is_some (get old k) ≡ true → is_some (get new k) ≡ true
turn_kept None old new before after was is some none k there = ap (λ (z : Option Life). is_some z) (none k) ∙ there
turn_kept (Some deed) old new before after was is some none k there = by (eqb_tells some.slot k)
  where
    by : (((nat_eq some.slot k ≡ true) × (some.slot ≡ k)) ⊎ ((nat_eq some.slot k ≡ false) × (some.slot ≢ k))) → is_some (get new k) ≡ true
    by (inl v) = subst (λ (z : ℕ). is_some (get new z) ≡ true) v.1 (ap (λ (z : Option Life). is_some z) some.asks.here)
    by (inr v) = ap (λ (z : Option Life). is_some z) (some.asks.others k v.0) ∙ there
