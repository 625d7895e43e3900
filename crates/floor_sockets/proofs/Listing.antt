-- Who waits for a turn, as sockets change.
use Rattle.std.proofs.Common.{◌≡◌, ◌≢◌, ℕ, Bool, true, false, cond, List, [], ◌∷◌, ◌++◌, Option, Some, None, refl, sym, ap, ◌∙◌, arith, subst, inl, inr, nat_eq}
use Rattle.std.specs.Prelude.{◌⊎◌, ◌<◌, All, IfNone, IfSome, is_some, not, filter, option_map}
use Rattle.std.proofs.lemmas.Bool.Decides.{eqb_tells}
use Rattle.std.proofs.lemmas.List.Elements.{All-cons, All-head, All-nil, All-tail, All-weaker}
use Rattle.slab.specs.Slab.{Slab, get}
use Rattle.floor_sockets.specs.declared.deadlines.Deadline.{Deadline}
use Rattle.floor_sockets.specs.declared.life.Asked.{Asked}
use Rattle.floor_sockets.specs.declared.life.Asked.TheVariants as asked
use Rattle.floor_sockets.specs.declared.life.Deed.{Deed}
use Rattle.floor_sockets.specs.declared.life.Life.{Life}
use Rattle.floor_sockets.specs.declared.role.Role.{Role}
use Rattle.floor_sockets.specs.declared.role.Role.TheVariants as role
use Rattle.floor_sockets.specs.Life.{at_deadline, deed_of, due_of, is_awaiting, is_something, next_asked, next_behind, shutting, to_ask}
use Rattle.floor_sockets.specs.Rounds.{IsTurn, Rounds, SameQueues, times}
use Rattle.floor_sockets.specs.Sockets.{IsDueOf, IsIdle, IsLined, IsTurnOf, Passes, Rests, StandsIn}
use Rattle.floor_sockets.specs.steps.Listed.{Asks, HasLife, IsDueIn, IsListed, NextIn, with_asked}
use Rattle.floor_sockets.proofs.Turning.{eq_yes, not_both}

some_out : (x y : Life) → Some x ≡ Some y → x ≡ y
some_out x y e = cc

none_some : {A : Type 0} (x : Life) (z : Option Life) → z ≡ None → z ≡ Some x → A
none_some x z e f = absurd cc

pub same_queues : (line : Rounds) → SameQueues line line
same_queues line = record { groups = refl; queues = λ g. refl }

-- who stands in the line, or was missed
pub lined : (life : Life) (slot : ℕ) (old new : Rounds) (was is : Bool) → ((StandsIn life slot old new × (is ≡ was)) ⊎ (SameQueues old new × (is ≡ true))) → IsLined (Some life) slot old new was is
lined life slot old new was is u = record {
  there = λ l e. subst (λ (z : Life). (StandsIn z slot old new × (is ≡ was)) ⊎ (SameQueues old new × (is ≡ true))) (some_out life l e) u;
  none = λ e. absurd (some_none e);
}
  where
    some_none : Some life ≡ None → ⊥
    some_none e = cc

-- of whom nothing is to be asked: the same wait
pub lined_idle : (life : Life) (slot : ℕ) (line : Rounds) (short : Bool) → is_awaiting life ≡ false → IsLined (Some life) slot line line short short
lined_idle life slot line short idle =
    lined life slot line line short short (inl (record { put = λ e. not_both (sym e ∙ idle); waits = λ e. same_queues line; idle = λ e. same_queues line }, refl))

-- who stays as it is: it stands in the line, if anything is to be asked of it, or the line is short
pub unlined : (lives : Slab Life) (line : Rounds) (short : Bool) (slot : ℕ) (life : Life) → (short ≡ false → IsListed lives line) → get lives slot ≡ Some life → IsLined (Some life) slot line line short short
unlined lives line short slot life listed is = by short refl
  where
    by : (b : Bool) → short ≡ b → IsLined (Some life) slot line line short short
    by true e = lined life slot line line short short (inr (same_queues line, e))
    by false e =
        lined life slot line line short short
        (inl (record { put = λ a none. (let one = listed e slot life is a in absurd (omega (arith, one, none))); waits = λ h. same_queues line; idle = λ h. same_queues line }, refl))

-- one more turn went by
pub passes_more : (lives : ℕ → Option Life) (slots : List ℕ) (slot : ℕ) (old between new : Rounds) → Passes lives slots old between → IsTurn between new slot → IsIdle (lives slot) → Passes lives (slots ++ slot ∷ []) old new
passes_more lives [] slot old between new passes turn idle = (new, subst (λ (z : Rounds). IsTurn z new slot) passes turn, idle, refl)
passes_more lives (k ∷ slots) slot old between new passes turn idle = (passes.0, passes.1, passes.2, passes_more lives slots slot passes.0 between new passes.3 turn idle)

-- one socket is known otherwise, and stands in the line where it is waited for
pub set_listed : (old new : Slab Life) (line after : Rounds) (slot : ℕ) (life : Life)
    → ((l : Life) → get old slot ≡ Some l → get new slot ≡ Some life) → (get old slot ≡ None → get new slot ≡ None) → ((k : ℕ) → nat_eq slot k ≡ false → get new k ≡ get old k)
    → (is_awaiting life ≡ true → times after slot ≡ 1) → ((k : ℕ) → nat_eq slot k ≡ false → times after k ≡ times line k) → IsListed old line → IsListed new after
set_listed old new line after slot life here none others stands stood listed k l is waits = by (eqb_tells slot k)
  where
    at_slot : (z : Option Life) → get old slot ≡ z → get new slot ≡ Some l → times after slot ≡ 1
    at_slot None e f = none_some l (get new slot) (none e) f
    at_slot (Some m) e f = stands (ap is_awaiting (some_out life l (sym (here m e) ∙ f)) ∙ waits)

    by : (((nat_eq slot k ≡ true) × (slot ≡ k)) ⊎ ((nat_eq slot k ≡ false) × (slot ≢ k))) → times after k ≡ 1
    by (inl u) = ap (times after) (sym u.1) ∙ at_slot (get old slot) refl (ap (get new) u.1 ∙ is)
    by (inr u) = stood k u.0 ∙ listed k l (sym (others k u.0) ∙ is) waits

-- nothing is known otherwise, and the same stand in the line
pub left_listed : (old new : Slab Life) (line after : Rounds) → ((k : ℕ) → get new k ≡ get old k) → ((k : ℕ) → times after k ≡ times line k) → IsListed old line → IsListed new after
left_listed old new line after same stood listed k l is waits = stood k ∙ listed k l (sym (same k) ∙ is) waits

-- one who isn't waited for stands in the line no more
pub passed_listed : (old new : Slab Life) (line after : Rounds) (slot : ℕ) → ((k : ℕ) → get new k ≡ get old k) → ((k : ℕ) → nat_eq slot k ≡ false → times after k ≡ times line k)
    → ((l : Life) → get old slot ≡ Some l → is_awaiting l ≡ false) → IsListed old line → IsListed new after
passed_listed old new line after slot same stood idle listed k l is waits = by (eqb_tells slot k)
  where
    by : (((nat_eq slot k ≡ true) × (slot ≡ k)) ⊎ ((nat_eq slot k ≡ false) × (slot ≢ k))) → times after k ≡ 1
    by (inl u) = not_both (sym waits ∙ idle l (ap (get old) u.1 ∙ sym (same k) ∙ is))
    by (inr u) = stood k u.0 ∙ listed k l (sym (same k) ∙ is) waits

-- of whom something was asked, nothing more is to be asked
asked_idle : (a : Asked) (slot : ℕ) (deed : Deed) (next : Asked) → deed_of a slot ≡ Some deed → is_something (next_behind a next) ≡ false
asked_idle asked.Nothing slot deed next e = absurd cc
asked_idle asked.Accept slot deed next e = refl
asked_idle asked.Read slot deed next e = refl
asked_idle asked.Serve slot deed next e = refl
asked_idle asked.Write slot deed next e = refl
asked_idle asked.Shut slot deed next e = refl

pub asks_idle : (l : Life) (slot : ℕ) (deed : Deed) → deed_of (next_asked l) slot ≡ Some deed → is_awaiting (with_asked (next_asked l) l) ≡ false
asks_idle l slot deed e = asked_idle (next_asked l) slot deed (to_ask (with_asked (next_asked l) l)) e

-- who had the turn was asked
pub asks_listed : (old new : Slab Life) (line after : Rounds) (slot : ℕ) (deed : Deed) → Asks old new slot deed → ((k : ℕ) → nat_eq slot k ≡ false → times after k ≡ times line k) → IsListed old line → IsListed new after
asks_listed old new line after slot deed a stood listed k l is waits = by (eqb_tells slot k)
  where
    by : (((nat_eq slot k ≡ true) × (slot ≡ k)) ⊎ ((nat_eq slot k ≡ false) × (slot ≢ k))) → times after k ≡ 1
    by (inl u) =
        let same = some_out (with_asked (next_asked a.life) a.life) l (sym a.here ∙ ap (get new) u.1 ∙ is) in
        not_both (sym waits ∙ ap is_awaiting (sym same) ∙ asks_idle a.life slot deed a.by_deed)
    by (inr u) = stood k u.0 ∙ listed k l (sym (a.others k u.0) ∙ is) waits

-- where nobody stands in the line nobody is waited for
pub nobody_waits : (lives : Slab Life) (line : Rounds) → ((k : ℕ) → times line k ≡ 0) → IsListed lives line → (k : ℕ) (l : Life) → get lives k ≡ Some l → is_awaiting l ≡ false
nobody_waits lives line none listed k l is = by (is_awaiting l) refl
  where
    by : (b : Bool) → is_awaiting l ≡ b → is_awaiting l ≡ false
    by false e = e
    by true e = let one = listed k l is e in let zero_times = none k in absurd (omega arith)

-- the slots of deadlines have sockets still, where each slot that had one has
pub alive_kept : (old new : Slab Life) (ds : List Deadline) → ((k : ℕ) → is_some (get old k) ≡ true → is_some (get new k) ≡ true) → All (HasLife old) ds → All (HasLife new) ds
alive_kept old new ds kept alive = All-weaker (HasLife old) (HasLife new) (λ d h. kept d.slot h) ds alive

-- and where one has none any more, and no deadline
pub alive_without : (old new : Slab Life) (slot : ℕ) (ds : List Deadline) → ((k : ℕ) → nat_eq slot k ≡ false → get new k ≡ get old k) → All (HasLife old) ds
    → All (HasLife new) (filter (λ d. not (nat_eq d.slot slot)) ds)
alive_without old new slot [] others alive = All-nil (HasLife new)
alive_without old new slot (d ∷ ds) others alive = by (eqb_tells d.slot slot) (alive_without old new slot ds others (All-tail (HasLife old) d ds alive))
  where
    by : (((nat_eq d.slot slot ≡ true) × (d.slot ≡ slot)) ⊎ ((nat_eq d.slot slot ≡ false) × (d.slot ≢ slot))) → All (HasLife new) (filter (λ e. not (nat_eq e.slot slot)) ds)
        → All (HasLife new) (filter (λ e. not (nat_eq e.slot slot)) (d ∷ ds))
    by (inl u) rec = rw u.0 rec
    by (inr u) rec =
        let other : nat_eq slot d.slot ≡ false = flip (eqb_tells slot d.slot) in
        let there : HasLife new d = ap (λ (z : Option Life). is_some z) (others d.slot other) ∙ All-head (HasLife old) d ds alive in
        rw u.0 (All-cons (HasLife new) d (filter (λ e. not (nat_eq e.slot slot)) ds) there rec)
      where
        flip : (((nat_eq slot d.slot ≡ true) × (slot ≡ d.slot)) ⊎ ((nat_eq slot d.slot ≡ false) × (slot ≢ d.slot))) → nat_eq slot d.slot ≡ false
        flip (inl v) = absurd (u.1 (sym v.1))
        flip (inr v) = v.0

-- a deadline always brings a deed
pub due_some : (l : Life) (slot : ℕ) → deed_of ((at_deadline l).asked) slot ≡ None → ⊥
due_some l slot = by_role l.role
  where
    by_over : (b : Bool) → deed_of ((cond b (shutting l) (record l { is_held = false; asked = asked.Accept })).asked) slot ≡ None → ⊥
    by_over true e = cc
    by_over false e = cc

    by_role : (r : Role) → deed_of ((due_of r l).asked) slot ≡ None → ⊥
    by_role role.Listener e = by_over l.is_over e
    by_role role.Member e = cc
    by_role role.AtDoor e = cc
    by_role role.MemberByDoor e = cc
    by_role role.Control e = cc
    by_role role.Observer e = cc
    by_role role.Console e = cc
    by_role role.Probe e = cc
    by_role role.Http e = cc

-- one has no socket any more
pub removed_listed : (old new : Slab Life) (line : Rounds) (slot : ℕ) → get new slot ≡ None → ((k : ℕ) → nat_eq slot k ≡ false → get new k ≡ get old k) → IsListed old line → IsListed new line
removed_listed old new line slot gone others listed k l is waits = by (eqb_tells slot k)
  where
    by : (((nat_eq slot k ≡ true) × (slot ≡ k)) ⊎ ((nat_eq slot k ≡ false) × (slot ≢ k))) → times line k ≡ 1
    by (inl u) = none_some l (get new slot) gone (ap (get new) u.1 ∙ is)
    by (inr u) = listed k l (sym (others k u.0) ∙ is) waits

pub apart : (slot k : ℕ) → nat_eq slot k ≡ false → k ≢ slot
apart slot k e same = not_both (sym (eq_yes slot k (sym same)) ∙ e)

-- whose time has come was asked
pub due_listed : (old new : Slab Life) (line : Rounds) (due left : List Deadline) (time : ℕ) (deed : Deed) → IsDueIn old new due left time deed → IsListed old line → IsListed new line
due_listed old new line due left time deed d listed k l is waits = by (eqb_tells d.deadline.slot k)
  where
    by : (((nat_eq d.deadline.slot k ≡ true) × (d.deadline.slot ≡ k)) ⊎ ((nat_eq d.deadline.slot k ≡ false) × (d.deadline.slot ≢ k))) → times line k ≡ 1
    by (inl u) =
        let same = some_out (at_deadline d.life) l (sym d.here ∙ ap (get new) u.1 ∙ is) in
        not_both (sym waits ∙ ap is_awaiting (sym same) ∙ asked_idle ((at_deadline d.life).asked) d.deadline.slot deed (to_ask (at_deadline d.life)) d.by_deed)
    by (inr u) = listed k l (sym (d.others k u.0) ∙ is) waits

pub due_alive : (old new : Slab Life) (due left : List Deadline) (time : ℕ) (deed : Deed) → IsDueIn old new due left time deed → All (HasLife old) due → All (HasLife new) left
due_alive old new due left time deed d alive = subst (λ (ds : List Deadline). All (HasLife new) ds) (sym d.rest) (alive_without old new d.deadline.slot due d.others alive)

due_idle : (l : Life) (slot : ℕ) (deed : Deed) → deed_of ((at_deadline l).asked) slot ≡ Some deed → is_awaiting (at_deadline l) ≡ false
due_idle l slot deed e = asked_idle ((at_deadline l).asked) slot deed (to_ask (at_deadline l)) e

-- the same of the whole table
pub due_all : (old new : Slab Life) (line : Rounds) (due left : List Deadline) (time : ℕ) (short : Bool) (deed : Deed) → IsDueIn old new due left time deed
    → IsDueOf (record { lives = old.slots; line = line; deadlines = due; time = time; is_short = short }) (record { lives = new.slots; line = line; deadlines = left; time = time; is_short = short }) deed
due_all old new line due left time short deed d = record {
  deadline = d.deadline;
  life = d.life;
  stood = d.stood;
  come = d.come;
  was = d.was;
  asked = d.by_deed;
  changed = record {
    here = d.here ∙ sym (ap (λ (z : Option Life). option_map at_deadline z) d.was);
    others = d.others;
    line =
        subst (λ (z : Option Life). IsLined (option_map at_deadline z) d.deadline.slot line line short short) (sym d.was)
        (lined_idle (at_deadline d.life) d.deadline.slot line short (due_idle d.life d.deadline.slot deed d.by_deed));
    due = d.rest;
    time = refl;
  };
}

-- a turn, of the whole table, where no deadline has come
pub turn_all : (r : Option Deed) (old between new : Slab Life) (before after : Rounds) (due left : List Deadline) (time : ℕ) (was is : Bool) → between ≡ old → left ≡ due → All (λ d. time < d.until) due
    → IfSome r (NextIn between new before after was is)
    → IfSome r (λ deed.
    IsDueOf (record { lives = old.slots; line = before; deadlines = due; time = time; is_short = was }) (record { lives = new.slots; line = after; deadlines = left; time = time; is_short = is }) deed
    ⊎ IsTurnOf (record { lives = old.slots; line = before; deadlines = due; time = time; is_short = was }) (record { lives = new.slots; line = after; deadlines = left; time = time; is_short = is }) deed)
turn_all None old between new before after due left time was is same none early turns = tt
turn_all (Some deed) old between new before after due left time was is same none early turns =
    let t = subst (λ (z : Slab Life). NextIn z new before after was is deed) same turns in
    inr (record {
      early = early;
      passed = t.passed;
      line = t.line;
      passes = t.passes;
      slot = t.slot;
      turn = t.turn;
      life = t.asks.life;
      was = t.asks.was;
      asked = t.asks.by_deed;
      here = t.asks.here;
      others = t.asks.others;
      due = none;
      time = refl;
    })

-- and where nobody has one
pub turn_none : (r : Option Deed) (old between new : Slab Life) (before after : Rounds) (due left : List Deadline) (time : ℕ) (was is : Bool) → between ≡ old → left ≡ due → IfNone r ((k : ℕ) → get new k ≡ get between k)
    → IfNone r ((passed : List ℕ) × Passes (get between) passed before after) → IfNone r ((k : ℕ) → times after k ≡ 0) → IfNone r (is ≡ false)
    → IfNone r (Rests (record { lives = old.slots; line = before; deadlines = due; time = time; is_short = was }) (record { lives = new.slots; line = after; deadlines = left; time = time; is_short = is }))
turn_none (Some deed) old between new before after due left time was is same none lives passes nobody whole = tt
turn_none None old between new before after due left time was is same none lives passes nobody whole = record {
  passed = passes.0;
  passes = subst (λ (z : Slab Life). Passes (get z) passes.0 before after) same passes.1;
  nobody = nobody;
  whole = whole;
  lives = λ k. lives k ∙ ap (λ (z : Slab Life). get z k) same;
  due = none;
  time = refl;
}

-- whoever had a socket has one still, where one is known otherwise
pub set_kept : (old new : Slab Life) (slot : ℕ) (life : Life) → ((l : Life) → get old slot ≡ Some l → get new slot ≡ Some life) → ((k : ℕ) → nat_eq slot k ≡ false → get new k ≡ get old k)
    → (k : ℕ) → is_some (get old k) ≡ true → is_some (get new k) ≡ true
set_kept old new slot life here others k was = by (eqb_tells slot k)
  where
    at_slot : (z : Option Life) → get old slot ≡ z → is_some (get old slot) ≡ true → is_some (get new slot) ≡ true
    at_slot None e h = not_both (sym h ∙ ap (λ (y : Option Life). is_some y) e)
    at_slot (Some m) e h = ap (λ (y : Option Life). is_some y) (here m e)

    by : (((nat_eq slot k ≡ true) × (slot ≡ k)) ⊎ ((nat_eq slot k ≡ false) × (slot ≢ k))) → is_some (get new k) ≡ true
    by (inl u) = subst (λ (z : ℕ). is_some (get old z) ≡ true → is_some (get new z) ≡ true) u.1 (at_slot (get old slot) refl) was
    by (inr u) = ap (λ (y : Option Life). is_some y) (others k u.0) ∙ was

-- and where those of a slot are no more
pub alive_where : (lives : Slab Life) (b : Bool) (slot : ℕ) (ds : List Deadline) → All (HasLife lives) ds → All (HasLife lives) (cond b (filter (λ d. not (nat_eq d.slot slot)) ds) ds)
alive_where lives false slot ds alive = alive
alive_where lives true slot ds alive = alive_without lives lives slot ds (λ k e. refl) alive
