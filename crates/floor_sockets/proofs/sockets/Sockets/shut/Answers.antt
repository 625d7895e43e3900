use Rattle.std.proofs.Common.{◌≡◌, ℕ, ◌+◌, ◌≤◌, List, ap, arith, sym, subst}
use Rattle.std.specs.Prelude.{All, IfNone, OnSome, Option, Some, None}
use Rattle.slab.specs.Slab.{Slab, slab_len}
use Rattle.floor_sockets.specs.declared.life.Life.{Life}
use Rattle.floor_sockets.specs.declared.deadlines.Deadline.{Deadline}
use Rattle.floor_sockets.specs.Sockets.{due_times}
use Rattle.floor_sockets.specs.steps.Listed.{HasLife}
use Rattle.floor_sockets.proofs.Listing.{alive_without, apart, removed_listed}
use Rattle.floor_sockets.proofs.Timing.{few_without}
use Rattle.floor_sockets.proofs.sockets.Sockets.shut.Goals as goal

-- a socket fewer, or as many
fewer : (r : Option Life) (old new : Slab Life) (room after : ℕ) → slab_len old ≤ room → after ≡ room → OnSome r (slab_len new + 1 ≡ slab_len old) → IfNone r (new ≡ old) → slab_len new ≤ after
fewer (Some l) old new room after e f g h = omega (arith, e, f, g)
fewer None old new room after e f g h = let same = ap (λ (s : Slab Life). slab_len s) h in omega (arith, e, f, same)

pub invariant_of-self : goal.invariant_of-self
invariant_of-self c = record {
  listed =
      λ whole. removed_listed c.self.inside.lives c.try_remove-life.new.self c.self.inside.line c.args.slot c.try_remove-life.ensures.updates.changed
      (λ k e. c.try_remove-life.ensures.updates.others k (apart c.args.slot k e)) (c.self.invariant.listed whole);
  alive =
      subst (λ (ds : List Deadline). All (HasLife c.try_remove-life.new.self) ds) (sym c.cancel.ensures.next)
      (alive_without c.self.inside.lives c.try_remove-life.new.self c.args.slot c.self.inside.deadlines.items
      (λ k e. c.try_remove-life.ensures.updates.others k (apart c.args.slot k e)) c.self.invariant.alive);
  once = c.self.invariant.once;
  few = subst (λ (ds : List Deadline). (k : ℕ) → due_times ds k ≤ 1) (sym c.cancel.ensures.next) (few_without c.self.inside.deadlines.items c.args.slot c.self.invariant.few);
  room = fewer (c.try_remove-life.result) c.self.inside.lives c.try_remove-life.new.self c.self.inside.deadlines.room c.cancel.new.self.room c.self.invariant.room c.cancel.ensures.room c.try_remove-life.ensures.len c.try_remove-life.ensures.absent;
}
