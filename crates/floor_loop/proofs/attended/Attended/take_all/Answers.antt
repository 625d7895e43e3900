use Rattle.std.proofs.Common.{refl, subst, sym, ℕ, List}
use Rattle.floor_loop.specs.declared.outgoing.Mark.TheVariants.{Ready, Ends, Fails}
use Rattle.floor_loop.specs.Loop.{Outgoing}
use Rattle.floor_loop.specs.steps.Changed.{carrying}
use Rattle.floor_loop.specs.steps.Listed.{AreListed, deadline}
use Rattle.floor_loop.proofs.Listing.{listed-beside}
use Rattle.floor_loop.proofs.attended.Attended.take_all.Goals as goal

pub invariant_of-self : goal.invariant_of-self
invariant_of-self c =
    let es = c.self.inside.outgoing.entries in
    let t = c.take_in.ensures.next in
    subst (λ (z : List (ℕ × Outgoing)). AreListed z c.self.inside.time c.self.inside.ready c.self.inside.ending c.self.inside.failed) (sym t.next)
    (record {
      ready = listed-beside Ready (carrying t.rest t.parcels) c.args.number es c.self.inside.time c.self.inside.ready (λ o. refl) c.self.invariant.ready;
      ending = listed-beside Ends (carrying t.rest t.parcels) c.args.number es (deadline c.self.inside.time) c.self.inside.ending (λ o. refl) c.self.invariant.ending;
      failed = listed-beside Fails (carrying t.rest t.parcels) c.args.number es c.self.inside.time c.self.inside.failed (λ o. refl) c.self.invariant.failed;
    })
