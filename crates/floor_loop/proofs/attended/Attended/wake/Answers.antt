use Rattle.std.proofs.Common.{◌≤◌, ℕ, List, arith, refl, subst, sym, ◌∙◌, nat_eq}
use Rattle.std.specs.Map.{lookup}
use Rattle.floor_loop.specs.declared.outgoing.Mark.TheVariants.{Ready, Ends, Fails}
use Rattle.floor_loop.specs.Loop.{Outgoing}
use Rattle.floor_loop.specs.steps.Changed.{changed, marked}
use Rattle.floor_loop.specs.steps.Listed.{AreListed, IsListed, deadline}
use Rattle.floor_loop.proofs.Listing.{lacks-true, listed-beside, listed-marked, listed-unmarked, room-for}
use Rattle.floor_loop.proofs.attended.Attended.wake.Goals as goal

pub push-requires : goal.push-requires
push-requires c =
    let o = lacks-true Ready (lookup (nat_eq c.args.number) c.self.inside.outgoing.entries) (sym c.mark_in.ensures.value ∙ c.if-not-mark_in.false) in
    room-for Ready c.args.number c.self.inside.outgoing.entries c.self.inside.time c.self.inside.ready o.0 o.1 o.2 c.self.invariant.ready

pub invariant_of-self : goal.invariant_of-self
invariant_of-self c =
    let none = sym c.mark_in.ensures.value ∙ c.if-not-mark_in.true in
    subst (λ (es : List (ℕ × Outgoing)). AreListed es c.self.inside.time c.self.inside.ready c.self.inside.ending c.self.inside.failed) (sym c.mark_in.ensures.next)
    (record {
      ready = listed-unmarked Ready Ready c.self.inside.time c.args.number c.self.inside.outgoing.entries c.self.inside.time c.self.inside.ready none c.self.invariant.ready;
      ending = listed-unmarked Ready Ends c.self.inside.time c.args.number c.self.inside.outgoing.entries (deadline c.self.inside.time) c.self.inside.ending none c.self.invariant.ending;
      failed = listed-unmarked Ready Fails c.self.inside.time c.args.number c.self.inside.outgoing.entries c.self.inside.time c.self.inside.failed none c.self.invariant.failed;
    })

pub invariant_of-self-2 : goal.invariant_of-self-2
invariant_of-self-2 c =
    let o = lacks-true Ready (lookup (nat_eq c.args.number) c.self.inside.outgoing.entries) (sym c.mark_in.ensures.value ∙ c.if-not-mark_in.false) in
    let before : c.self.inside.time ≤ c.self.inside.time = omega arith in
    let after : c.self.inside.time ≤ c.self.inside.time = omega arith in
    subst (λ (es : List (ℕ × Outgoing)). AreListed es c.self.inside.time c.push.new.self c.self.inside.ending c.self.inside.failed) (sym c.mark_in.ensures.next)
    (record {
      ready = (subst (IsListed Ready (changed (marked Ready c.self.inside.time) c.args.number c.self.inside.outgoing.entries) c.self.inside.time) (sym c.push.ensures.next) (listed-marked Ready c.self.inside.time c.args.number c.self.inside.outgoing.entries c.self.inside.time c.self.inside.time c.self.inside.ready o.0 o.1 o.2 before after c.self.invariant.ready));
      ending = listed-beside Ends (marked Ready c.self.inside.time) c.args.number c.self.inside.outgoing.entries (deadline c.self.inside.time) c.self.inside.ending (λ p. refl) c.self.invariant.ending;
      failed = listed-beside Fails (marked Ready c.self.inside.time) c.args.number c.self.inside.outgoing.entries c.self.inside.time c.self.inside.failed (λ p. refl) c.self.invariant.failed;
    })
