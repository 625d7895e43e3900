use Rattle.std.proofs.Common.{◌≡◌, ℕ, ◌≤◌, ◌∙◌, List, Some, ap, arith, sym, subst}
use Rattle.std.specs.Prelude.{All}
use Rattle.floor_sockets.specs.declared.deadlines.Deadline.{Deadline}
use Rattle.floor_sockets.specs.Sockets.{Changed, Sockets, due_times, life_at, renamed_due, renamed_life}
use Rattle.floor_sockets.specs.steps.Listed.{HasLife}
use Rattle.floor_sockets.proofs.Listing.{alive_kept, alive_where, set_kept, unlined}
use Rattle.floor_sockets.proofs.Running.{over_stays}
use Rattle.floor_sockets.proofs.Timing.{few_where}
use Rattle.floor_sockets.proofs.sockets.Sockets.become_role.Goals as goal

pub invariant_of-self : goal.invariant_of-self
invariant_of-self c = record {
  listed = λ whole. c.set_in.ensures.listed whole c.self.invariant.listed;
  alive =
      subst (λ (ds : List Deadline). All (HasLife c.set_in.new.lives) ds) (sym c.cancel_where.ensures.next)
      (alive_where c.set_in.new.lives c.is_at_door.result c.args.slot c.self.inside.deadlines.items
      (alive_kept c.self.inside.lives c.set_in.new.lives c.self.inside.deadlines.items
      (set_kept c.self.inside.lives c.set_in.new.lives c.args.slot c.renamed.result c.set_in.ensures.here c.set_in.ensures.others) c.self.invariant.alive));
  once = c.set_in.ensures.once c.self.invariant.once;
  few =
      subst (λ (ds : List Deadline). (k : ℕ) → due_times ds k ≤ 1) (sym c.cancel_where.ensures.next)
      (few_where c.is_at_door.result c.self.inside.deadlines.items c.args.slot c.self.invariant.few);
  room = let old = c.self.invariant.room in let len = c.set_in.ensures.len in let same = c.cancel_where.ensures.room in omega (arith, old, len, same);
}

pub returns-then-life : goal.returns-then-life
returns-then-life c =
    let was : Sockets = record { lives = c.self.inside.lives.slots; line = c.self.inside.line; deadlines = c.self.inside.deadlines.items; time = c.self.inside.time; is_short = c.self.inside.is_short } in
    let there : life_at was c.args.slot ≡ Some c.in-Some.life = ap (λ (s : Sockets). life_at s c.args.slot) c.self.view_is ∙ sym c.in-Some.ensures.value in
    record {
      took =
          subst (λ (s : Sockets). Changed (renamed_life c.args.role c.args.group) c.args.slot (renamed_due c.args.slot (life_at s c.args.slot) s.deadlines) s s) c.self.view_is
          (over_stays c.args.role c.args.group c.args.slot was c.in-Some.life there c.if-life.true
          (unlined c.self.inside.lives c.self.inside.line c.self.inside.is_short c.args.slot c.in-Some.life c.self.invariant.listed there));
    }
