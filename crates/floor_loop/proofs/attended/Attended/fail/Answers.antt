use Rattle.std.proofs.Common.{◌≤◌, ℕ, List, arith, refl, subst, sym, ◌∙◌, nat_eq}
use Rattle.std.specs.Map.{lookup}
use Rattle.floor_loop.specs.declared.outgoing.Mark.TheVariants.{Ready, Ends, Fails}
use Rattle.floor_loop.specs.Loop.{Outgoing}
use Rattle.floor_loop.specs.steps.Changed.{changed, marked}
use Rattle.floor_loop.specs.steps.Listed.{AreListed, IsListed, deadline}
use Rattle.floor_loop.proofs.Listing.{lacks-true, listed-beside, listed-marked, listed-unmarked, room-for}
use Rattle.floor_loop.proofs.Marking.{past-by}
use Rattle.floor_loop.proofs.attended.Attended.fail.Goals as goal

pub push-requires : goal.push-requires
push-requires c =
    let o = lacks-true Fails (lookup (nat_eq c.args.number) c.self.inside.outgoing.entries) (sym c.mark_in.ensures.value ∙ c.if-not-mark_in.false) in
    room-for Fails c.args.number c.self.inside.outgoing.entries c.self.inside.time c.self.inside.failed o.0 o.1 o.2 c.self.invariant.failed

pub invariant_of-self : goal.invariant_of-self
invariant_of-self c =
    let none = sym c.mark_in.ensures.value ∙ c.if-not-mark_in.true in
    subst (λ (es : List (ℕ × Outgoing)). AreListed es c.self.inside.time c.self.inside.ready c.self.inside.ending c.self.inside.failed) (sym c.mark_in.ensures.next)
    (record {
      ready = listed-unmarked Fails Ready c.self.inside.time c.args.number c.self.inside.outgoing.entries c.self.inside.time c.self.inside.ready none c.self.invariant.ready;
      ending = listed-unmarked Fails Ends c.self.inside.time c.args.number c.self.inside.outgoing.entries (deadline c.self.inside.time) c.self.inside.ending none c.self.invariant.ending;
      failed = listed-unmarked Fails Fails c.self.inside.time c.args.number c.self.inside.outgoing.entries c.self.inside.time c.self.inside.failed none c.self.invariant.failed;
    })

pub invariant_of-self-2 : goal.invariant_of-self-2
invariant_of-self-2 c =
    let o = lacks-true Fails (lookup (nat_eq c.args.number) c.self.inside.outgoing.entries) (sym c.mark_in.ensures.value ∙ c.if-not-mark_in.false) in
    let before : c.self.inside.time ≤ c.self.inside.time = omega arith in
    let after : c.self.inside.time ≤ c.self.inside.time = omega arith in
    subst (λ (es : List (ℕ × Outgoing)). AreListed es c.self.inside.time c.self.inside.ready c.self.inside.ending c.push.new.self) (sym c.mark_in.ensures.next)
    (record {
      ready = listed-beside Ready (marked Fails c.self.inside.time) c.args.number c.self.inside.outgoing.entries c.self.inside.time c.self.inside.ready (λ p. refl) c.self.invariant.ready;
      ending = listed-beside Ends (marked Fails c.self.inside.time) c.args.number c.self.inside.outgoing.entries (deadline c.self.inside.time) c.self.inside.ending (λ p. refl) c.self.invariant.ending;
      failed = (subst (IsListed Fails (changed (marked Fails c.self.inside.time) c.args.number c.self.inside.outgoing.entries) c.self.inside.time) (sym c.push.ensures.next) (listed-marked Fails c.self.inside.time c.args.number c.self.inside.outgoing.entries c.self.inside.time c.self.inside.time c.self.inside.failed o.0 o.1 o.2 before after c.self.invariant.failed));
    })

pub returns-then-not-mark_in-clause-past : goal.returns-then-not-mark_in-clause-past
returns-then-not-mark_in-clause-past c =
    past-by c.self.inside.outgoing.entries c.mark_in.new.outgoing.entries c.args.number c.self.inside.time c.self.inside.failed c.mark_in.ensures.next (invariant_of-self c).failed

pub returns-clause-past : goal.returns-clause-past
returns-clause-past c =
    past-by c.self.inside.outgoing.entries c.mark_in.new.outgoing.entries c.args.number c.self.inside.time c.push.new.self c.mark_in.ensures.next (invariant_of-self-2 c).failed
