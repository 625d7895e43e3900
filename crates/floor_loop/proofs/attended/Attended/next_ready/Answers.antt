use Rattle.std.proofs.Common.{ap, refl}
use Rattle.floor_loop.specs.declared.outgoing.Mark.TheVariants.{Ends, Fails}
use Rattle.floor_loop.specs.Loop.{Attended}
use Rattle.floor_loop.specs.steps.Listed.{deadline}
use Rattle.floor_loop.proofs.Listing.{found-is, listed-maybe, next-is, none-is}
use Rattle.floor_loop.proofs.attended.Attended.next_ready.Goals as goal

pub invariant_of-self : goal.invariant_of-self
invariant_of-self c =
    let es = c.self.inside.outgoing.entries in
    let fs = c.next_in.new.outgoing.entries in
    record {
      ready = c.next_in.ensures.listed c.self.inside.time c.self.invariant.ready;
      ending = listed-maybe Ends c.next_in.result es fs (deadline c.self.inside.time) c.self.inside.ending c.next_in.ensures.next (λ o. refl) c.self.invariant.ending;
      failed = listed-maybe Fails c.next_in.result es fs c.self.inside.time c.self.inside.failed c.next_in.ensures.next (λ o. refl) c.self.invariant.failed;
    }

pub returns : goal.returns
returns c =
    let es = c.self.inside.outgoing.entries in
    let fs = c.next_in.new.outgoing.entries in
    let same = ap (λ (z : Attended). z.outgoing) c.self.view_is in
    record {
      next = next-is c.next_in.result es fs c.self.inside.time c.self.inside.away c.args.self.now c.next_in.ensures.next c.self.view_is;
      found = found-is c.next_in.result es c.args.self.now same c.next_in.ensures.found;
      none = none-is c.next_in.result es c.self.inside.time c.self.inside.ready c.args.self.now same c.self.invariant.ready c.next_in.ensures.none;
    }
