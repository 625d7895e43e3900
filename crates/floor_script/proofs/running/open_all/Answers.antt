use Rattle.floor_config.specs.Demonstration.{demonstration}
use Rattle.floor_script.proofs.Outcomes.{opened_one}
use Rattle.floor_script.proofs.running.open_all.Goals as goal

pub returns-in_ok-open-in-None-clause-took : goal.returns-in_ok-open-in-None-clause-took
returns-in_ok-open-in-None-clause-took c =
    rw c.in-None.is (opened_one c.in_ok-config-in-None.config demonstration _ _ c.in_ok-config-in-None.ensures c.in_ok-open-in-None.ensures.took)
