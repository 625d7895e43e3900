use Rattle.floor_service.proofs.Quietly.{release_said}
use Rattle.floor_service.proofs.asking.release.Goals as goal

pub returns-clause-said : goal.returns-clause-said
returns-clause-said c = λ named given. release_said c.args.release.now _ named _ _ (c.in_ok-by.ensures.named named given) c.say.ensures.said
