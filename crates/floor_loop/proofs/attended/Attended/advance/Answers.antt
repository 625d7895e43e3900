use Rattle.std.proofs.Common.{ap, refl, sym, ◌∙◌}
use Rattle.floor_loop.specs.declared.outgoing.Mark.TheVariants.{Ready, Ends, Fails}
use Rattle.std.proofs.Common.{subst, ℕ, List}
use Rattle.floor_loop.specs.Loop.{Attended, Outgoing, outgoing_in}
use Rattle.floor_loop.specs.steps.Changed.{wrote_of}
use Rattle.floor_loop.specs.steps.Listed.{AreListed, deadline}
use Rattle.floor_loop.proofs.Listing.{listed-beside}
use Rattle.floor_loop.proofs.attended.Attended.advance.Goals as goal

pub advance_in-requires : goal.advance_in-requires
advance_in-requires c = λ o is. c.requires o (ap (λ (a : Attended). outgoing_in a c.args.number) (sym c.self.view_is) ∙ is)

pub invariant_of-self : goal.invariant_of-self
invariant_of-self c =
    let es = c.self.inside.outgoing.entries in
    subst (λ (z : List (ℕ × Outgoing)). AreListed z c.self.inside.time c.self.inside.ready c.self.inside.ending c.self.inside.failed) (sym c.advance_in.ensures.next)
    (record {
      ready = listed-beside Ready (wrote_of c.args.count) c.args.number es c.self.inside.time c.self.inside.ready (λ o. refl) c.self.invariant.ready;
      ending = listed-beside Ends (wrote_of c.args.count) c.args.number es (deadline c.self.inside.time) c.self.inside.ending (λ o. refl) c.self.invariant.ending;
      failed = listed-beside Fails (wrote_of c.args.count) c.args.number es c.self.inside.time c.self.inside.failed (λ o. refl) c.self.invariant.failed;
    })
