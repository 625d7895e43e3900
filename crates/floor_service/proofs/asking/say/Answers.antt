use Rattle.std.proofs.Common.{◌∙◌}
use Rattle.floor_service.proofs.Quietly.{said_as}
use Rattle.floor_service.proofs.asking.say.Goals as goal

pub returns-in_err-info-in-Ok-clause-said : goal.returns-in_err-info-in-Ok-clause-said
returns-in_err-info-in-Ok-clause-said c = said_as _ _ _ _ _ _ (c.bytes.ensures.value ∙ c.in_ok-message.ensures.value) c.say.ensures.quiet

pub returns-in-Ok-clause-said : goal.returns-in-Ok-clause-said
returns-in-Ok-clause-said c = said_as _ _ _ _ _ _ (c.bytes.ensures.value ∙ c.in_ok-message.ensures.value) c.say.ensures.quiet

pub returns-clause-said : goal.returns-clause-said
returns-clause-said c = said_as _ _ _ _ _ _ (c.bytes.ensures.value ∙ c.in_ok-message.ensures.value) c.say.ensures.quiet
