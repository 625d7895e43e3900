use Rattle.std.proofs.Common.{refl}
use Rattle.floor_script.proofs.Standing.{prints_all, prints_nothing}
use Rattle.floor_script.proofs.conferences.Conferences.take_waiting.Goals as goal

pub returns-in-None : goal.returns-in-None
returns-in-None c = record { took = prints_nothing c.args.conference _ c.new-taken.result.items _ c.in-None.is c.new-taken.ensures.items }

pub returns-in_ok-take_all-in-Some : goal.returns-in_ok-take_all-in-Some
returns-in_ok-take_all-in-Some c =
    record { took = prints_all c.args.conference c.in-Some.conference c.live_in-lives.result.now _ _ c.new-taken.result.items _ _ _ c.in-Some.is c.new-taken.ensures.items c.live_in-lives.ensures.value c.in_ok-take_all-in-Some.ensures.took refl }
