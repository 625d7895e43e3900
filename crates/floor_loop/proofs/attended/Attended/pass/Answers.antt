use Rattle.std.proofs.Common.{◌≤◌, arith}
use Rattle.floor_loop.specs.declared.outgoing.Mark.TheVariants.{Ready, Ends, Fails}
use Rattle.floor_loop.specs.steps.Listed.{deadline}
use Rattle.floor_loop.proofs.Listing.{listed-later}
use Rattle.floor_loop.proofs.attended.Attended.pass.Goals as goal

pub invariant_of-self : goal.invariant_of-self
invariant_of-self c =
    let es = c.self.inside.outgoing.entries in
    let later : c.self.inside.time ≤ c.max-self-inside.result = omega (arith, c.max-self-inside.ensures) in
    let deadlines : deadline c.self.inside.time ≤ deadline c.max-self-inside.result = omega (arith, later) in
    record {
      ready = listed-later Ready es c.self.inside.time c.max-self-inside.result c.self.inside.ready later c.self.invariant.ready;
      ending = listed-later Ends es (deadline c.self.inside.time) (deadline c.max-self-inside.result) c.self.inside.ending deadlines c.self.invariant.ending;
      failed = listed-later Fails es c.self.inside.time c.max-self-inside.result c.self.inside.failed later c.self.invariant.failed;
    }
