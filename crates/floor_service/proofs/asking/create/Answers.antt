use Rattle.floor_service.proofs.Quietly.{creation_said}
use Rattle.floor_service.proofs.asking.create.Goals as goal

pub returns-clause-said : goal.returns-clause-said
returns-clause-said c = creation_said c.args.creation.now _ _ _ _ c.unwrap_or-by.ensures c.in_ok-ask.ensures.value c.say.ensures.said
