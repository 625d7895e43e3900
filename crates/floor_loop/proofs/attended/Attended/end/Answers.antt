use Rattle.std.proofs.Common.{◌≡◌, ◌≤◌, ℕ, List, arith, refl, subst, sym, ◌∙◌, nat_eq}
use Rattle.std.specs.Map.{lookup}
use Rattle.floor_loop.specs.declared.outgoing.Mark.TheVariants.{Ready, Ends, Fails}
use Rattle.floor_loop.specs.Loop.{Outgoing}
use Rattle.floor_loop.specs.steps.Changed.{changed, marked}
use Rattle.floor_loop.specs.steps.Listed.{AreListed, IsListed, deadline}
use Rattle.floor_loop.proofs.Listing.{lacks-true, listed-beside, listed-marked, listed-unmarked, room-for}
use Rattle.floor_loop.proofs.Marking.{soon-by}
use Rattle.floor_loop.proofs.attended.Attended.end.Goals as goal

pub push-requires : goal.push-requires
push-requires c =
    let o = lacks-true Ends (lookup (nat_eq c.args.number) c.self.inside.outgoing.entries) (sym c.mark_in.ensures.value ∙ c.if-not-mark_in.false) in
    room-for Ends c.args.number c.self.inside.outgoing.entries (deadline c.self.inside.time) c.self.inside.ending o.0 o.1 o.2 c.self.invariant.ending

pub invariant_of-self : goal.invariant_of-self
invariant_of-self c =
    let none = sym c.mark_in.ensures.value ∙ c.if-not-mark_in.true in
    subst (λ (es : List (ℕ × Outgoing)). AreListed es c.self.inside.time c.self.inside.ready c.self.inside.ending c.self.inside.failed) (sym c.mark_in.ensures.next)
    (record {
      ready = listed-unmarked Ends Ready c.saturating_add-until.result c.args.number c.self.inside.outgoing.entries c.self.inside.time c.self.inside.ready none c.self.invariant.ready;
      ending = listed-unmarked Ends Ends c.saturating_add-until.result c.args.number c.self.inside.outgoing.entries (deadline c.self.inside.time) c.self.inside.ending none c.self.invariant.ending;
      failed = listed-unmarked Ends Fails c.saturating_add-until.result c.args.number c.self.inside.outgoing.entries c.self.inside.time c.self.inside.failed none c.self.invariant.failed;
    })

pub invariant_of-self-2 : goal.invariant_of-self-2
invariant_of-self-2 c =
    let o = lacks-true Ends (lookup (nat_eq c.args.number) c.self.inside.outgoing.entries) (sym c.mark_in.ensures.value ∙ c.if-not-mark_in.false) in
    let is : c.saturating_add-until.result ≡ deadline c.self.inside.time = c.saturating_add-until.ensures in
    let before : deadline c.self.inside.time ≤ c.saturating_add-until.result = omega (arith, is) in
    let after : c.saturating_add-until.result ≤ deadline c.self.inside.time = omega (arith, is) in
    subst (λ (es : List (ℕ × Outgoing)). AreListed es c.self.inside.time c.self.inside.ready c.push.new.self c.self.inside.failed) (sym c.mark_in.ensures.next)
    (record {
      ready = listed-beside Ready (marked Ends c.saturating_add-until.result) c.args.number c.self.inside.outgoing.entries c.self.inside.time c.self.inside.ready (λ p. refl) c.self.invariant.ready;
      ending = (subst (IsListed Ends (changed (marked Ends c.saturating_add-until.result) c.args.number c.self.inside.outgoing.entries) (deadline c.self.inside.time)) (sym c.push.ensures.next) (listed-marked Ends c.saturating_add-until.result c.args.number c.self.inside.outgoing.entries (deadline c.self.inside.time) (deadline c.self.inside.time) c.self.inside.ending o.0 o.1 o.2 before after c.self.invariant.ending));
      failed = listed-beside Fails (marked Ends c.saturating_add-until.result) c.args.number c.self.inside.outgoing.entries c.self.inside.time c.self.inside.failed (λ p. refl) c.self.invariant.failed;
    })

pub returns-then-not-mark_in-clause-soon : goal.returns-then-not-mark_in-clause-soon
returns-then-not-mark_in-clause-soon c =
    soon-by c.self.inside.outgoing.entries c.mark_in.new.outgoing.entries c.args.number c.saturating_add-until.result c.self.inside.time c.self.inside.ending c.mark_in.ensures.next (invariant_of-self c).ending

pub returns-clause-soon : goal.returns-clause-soon
returns-clause-soon c =
    soon-by c.self.inside.outgoing.entries c.mark_in.new.outgoing.entries c.args.number c.saturating_add-until.result c.self.inside.time c.push.new.self c.mark_in.ensures.next (invariant_of-self-2 c).ending
