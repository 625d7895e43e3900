use Rattle.std.proofs.Common.{◌∙◌, sym}
use Rattle.std.proofs.lemmas.List.Elements.{All-more}
use Rattle.floor_config.specs.Configuration.{IsFloor}
use Rattle.floor_config.specs.Building.{floor_fits}
use Rattle.floor_config.proofs.Limits.{passes_more}
use Rattle.floor_config.proofs.building.all_floors_fit.Goals as goal

pub loop-floor-preserved : goal.loop-floor-preserved
loop-floor-preserved c = record {
  pass = passes_more floor_fits c.args.floors.now c.loop-floor.floor-index _ c.loop-floor-test.true c.loop-floor.invariant.pass (sym c.floor_fits.ensures.value ∙ c.if-not-floor_fits.false);
  fits = All-more IsFloor c.args.floors.now c.loop-floor.floor-index _ c.loop-floor-test.true c.loop-floor.invariant.fits (c.floor_fits.ensures.fits c.if-not-floor_fits.false);
}
