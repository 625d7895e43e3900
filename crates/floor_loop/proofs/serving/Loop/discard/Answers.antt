use Rattle.floor_hub.specs.Gathers.{Gathers}
use Rattle.std.proofs.Common.{◌≡◌, ℕ, [], false, subst, nat_eq}
use Rattle.floor_loop.specs.Loop.{Loop}
use Rattle.floor_loop.specs.Written.{Dropped, Took}
use Rattle.floor_loop.specs.steps.Moved.{loop_of}
use Rattle.floor_loop.proofs.Calling.{took-refl}
use Rattle.floor_loop.proofs.Watching.{gathers-refl}
use Rattle.floor_loop.proofs.serving.Loop.discard.Goals as goal

pub returns-clause-others : goal.returns-clause-others
returns-clause-others c = subst (λ (l : Loop). (k : ℕ) → nat_eq c.args.number k ≡ false → Took l (loop_of c.throw_away.new.hub c.throw_away.new.attended) k [] 0) c.self.view_is (c.throw_away.ensures.thrown.others c.self.invariant)

pub returns-clause-dropped : goal.returns-clause-dropped
returns-clause-dropped c = subst (λ (l : Loop). Dropped l (loop_of c.throw_away.new.hub c.throw_away.new.attended) c.args.number) c.self.view_is (c.throw_away.ensures.thrown.dropped c.self.invariant)

pub returns-then-not-is_away-clause-dropped : goal.returns-then-not-is_away-clause-dropped
returns-then-not-is_away-clause-dropped c = ([], 0, took-refl c.args.self.now c.args.number)

pub returns-clause-gathered : goal.returns-clause-gathered
returns-clause-gathered c = subst (λ (l : Loop). Gathers l.hub c.throw_away.new.hub) c.self.view_is c.throw_away.ensures.thrown.gathered

pub returns-then-not-is_away-clause-gathered : goal.returns-then-not-is_away-clause-gathered
returns-then-not-is_away-clause-gathered c = gathers-refl c.args.self.now.hub
