use Rattle.std.proofs.Common.{◌++◌, subst, sym}
use Rattle.floor_hub.specs.Runs.{run}
use Rattle.floor_hub.specs.StandsFor.{StandsFor}
use Rattle.floor_hub.specs.World.{nothing}
use Rattle.floor_claims.proofs.Calling.{run-append}
use Rattle.floor_claims.proofs.run.begin.Goals as goal

pub returns : goal.returns
returns c =
    let g = c.open.ensures.steps nothing c.with_grace-hub.ensures.value in
    let h = c.attach.ensures.steps (run nothing g.steps) g.stands in
    record {
      begun = record {
        before = g.steps ++ h.steps;
        stands = subst (StandsFor c.attach.new.self.hub) (sym (run-append nothing g.steps h.steps)) h.stands;
        serving = c.is_live-live.ensures.serving;
        new = c.in_ok-number.ensures.fresh;
      };
    }
