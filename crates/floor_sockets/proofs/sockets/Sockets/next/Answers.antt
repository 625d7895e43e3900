use Rattle.std.proofs.Common.{ℕ, ◌≤◌, List, ap, arith, inl, sym, subst}
use Rattle.std.specs.Prelude.{◌⊎◌, IfNone, IfSome}
use Rattle.slab.specs.Slab.{Slab}
use Rattle.floor_sockets.specs.declared.deadlines.Deadline.{Deadline}
use Rattle.floor_sockets.specs.declared.life.Life.{Life}
use Rattle.floor_sockets.specs.steps.Due.{Deadlines}
use Rattle.floor_sockets.specs.steps.Listed.{IsSound}
use Rattle.floor_sockets.specs.Sockets.{IsDueOf, IsTurnOf, Rests, Sockets, due_times}
use Rattle.floor_sockets.proofs.Listing.{due_alive, due_all, due_listed, turn_all, turn_none}
use Rattle.floor_sockets.proofs.Timing.{few_without, same_sound, turn_kept}
use Rattle.floor_sockets.proofs.sockets.Sockets.next.Goals as goal

pub invariant_of-self : goal.invariant_of-self
invariant_of-self c = record {
  listed = λ whole. due_listed c.self.inside.lives c.due_in.new.lives c.self.inside.line c.self.inside.deadlines.items c.due_in.new.deadlines.items c.self.inside.time c.in-Some.deed c.in-Some.ensures.asked (c.self.invariant.listed whole);
  alive = due_alive c.self.inside.lives c.due_in.new.lives c.self.inside.deadlines.items c.due_in.new.deadlines.items c.self.inside.time c.in-Some.deed c.in-Some.ensures.asked c.self.invariant.alive;
  once = c.self.invariant.once;
  few =
      subst (λ (ds : List Deadline). (k : ℕ) → due_times ds k ≤ 1) (sym c.in-Some.ensures.asked.rest)
      (few_without c.self.inside.deadlines.items c.in-Some.ensures.asked.deadline.slot c.self.invariant.few);
  room = let old = c.self.invariant.room in let len = c.due_in.ensures.len in let same = c.due_in.ensures.room in omega (arith, old, len, same);
}

pub returns-in-Some-clause-asked : goal.returns-in-Some-clause-asked
returns-in-Some-clause-asked c =
    inl
    (subst
    (λ (s : Sockets). IsDueOf s (record { lives = c.due_in.new.lives.slots; line = c.self.inside.line; deadlines = c.due_in.new.deadlines.items; time = c.self.inside.time; is_short = c.self.inside.is_short }) c.in-Some.deed)
    c.self.view_is
    (due_all c.self.inside.lives c.due_in.new.lives c.self.inside.line c.self.inside.deadlines.items c.due_in.new.deadlines.items c.self.inside.time c.self.inside.is_short c.in-Some.deed c.in-Some.ensures.asked))

pub invariant_of-self-2 : goal.invariant_of-self-2
invariant_of-self-2 c =
    let left = c.in-None.ensures.left in
    let sound =
    subst (λ (z : Slab Life). IsSound z c.self.inside.line c.self.inside.is_short c.due_in.new.deadlines) (sym left.0)
    (subst (λ (z : Deadlines). IsSound c.self.inside.lives c.self.inside.line c.self.inside.is_short z) (sym left.1) c.self.invariant) in
    same_sound c.due_in.new.lives c.next_in.new.lives c.self.inside.line c.next_in.new.line c.self.inside.is_short c.next_in.new.is_short c.due_in.new.deadlines sound c.next_in.ensures.len c.next_in.ensures.listed c.next_in.ensures.once
    (turn_kept c.next_in.result c.due_in.new.lives c.next_in.new.lives c.self.inside.line c.next_in.new.line c.self.inside.is_short c.next_in.new.is_short c.next_in.ensures.asked c.next_in.ensures.none)

pub returns-clause-asked : goal.returns-clause-asked
returns-clause-asked c =
    let left = c.in-None.ensures.left in
    let new : Sockets = record { lives = c.next_in.new.lives.slots; line = c.next_in.new.line; deadlines = c.due_in.new.deadlines.items; time = c.self.inside.time; is_short = c.next_in.new.is_short } in
    subst (λ (s : Sockets). IfSome c.next_in.result (λ deed. IsDueOf s new deed ⊎ IsTurnOf s new deed)) c.self.view_is
    (turn_all c.next_in.result c.self.inside.lives c.due_in.new.lives c.next_in.new.lives c.self.inside.line c.next_in.new.line c.self.inside.deadlines.items c.due_in.new.deadlines.items c.self.inside.time
    c.self.inside.is_short c.next_in.new.is_short left.0 (ap (λ (z : Deadlines). z.items) left.1) c.in-None.ensures.early c.next_in.ensures.asked)

pub returns-clause-left : goal.returns-clause-left
returns-clause-left c =
    let left = c.in-None.ensures.left in
    let new : Sockets = record { lives = c.next_in.new.lives.slots; line = c.next_in.new.line; deadlines = c.due_in.new.deadlines.items; time = c.self.inside.time; is_short = c.next_in.new.is_short } in
    subst (λ (s : Sockets). IfNone c.next_in.result (Rests s new)) c.self.view_is
    (turn_none c.next_in.result c.self.inside.lives c.due_in.new.lives c.next_in.new.lives c.self.inside.line c.next_in.new.line c.self.inside.deadlines.items c.due_in.new.deadlines.items c.self.inside.time
    c.self.inside.is_short c.next_in.new.is_short left.0 (ap (λ (z : Deadlines). z.items) left.1) c.next_in.ensures.none c.next_in.ensures.passes c.next_in.ensures.nobody c.next_in.ensures.whole)
