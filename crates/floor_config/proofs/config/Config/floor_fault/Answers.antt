use Rattle.std.proofs.Common.{◌≡◌, ◌<◌, length, true, false}
use Rattle.floor_config.specs.Lookup.{is_floor}
use Rattle.floor_config.specs.Limits.{is_known}
use Rattle.floor_config.proofs.KeptAfter.{kept_floor}
use Rattle.floor_config.proofs.config.Config.floor_fault.Goals as goal

pub returns-clause-kept : goal.returns-clause-kept
returns-clause-kept c =
    let room : length c.args.self.now.floors < 32 = rw c.floors.ensures.value at c.if-floors-ge-MAX_FLOORS.false in
    let free : is_floor c.args.self.now.floors c.args.floor.now.id ≡ false = rw (c.is_floor.ensures.value, c.floors-2.ensures.value) at c.if-is_floor.false in
    let known : is_known c.args.self.now.users c.args.floor.now.chair ≡ true = rw (c.is_known.ensures, c.users.ensures.value) at c.if-not-is_known.false in
    λ none. kept_floor c.args.self.now c.args.floor.now c.floors.ensures.kept (c.floor_is_within.ensures.fits c.if-not-floor_is_within.false) room free known
