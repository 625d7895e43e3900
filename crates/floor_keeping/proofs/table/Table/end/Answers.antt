use Rattle.std.proofs.Common.{◌≤◌, arith}
use Rattle.floor_keeping.specs.Table.{sync_until}
use Rattle.floor_keeping.proofs.Listing.{until-last}
use Rattle.floor_keeping.proofs.table.Table.end.Goals as goal

pub invariant_of-self : goal.invariant_of-self
invariant_of-self c =
    let same : c.self.inside.time ≤ c.self.inside.time = omega arith in
    c.wake_in.ensures.listed c.self.inside.time c.self.inside.time (sync_until c.self.inside.is_last c.self.inside.time) (until-last c.self.inside.is_last c.self.inside.time (omega arith)) same c.self.invariant
