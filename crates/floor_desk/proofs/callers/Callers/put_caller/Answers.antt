use Rattle.std.proofs.Common.{◌∙◌}
use Rattle.floor_desk.proofs.callers.Callers.put_caller.Goals as goal

pub returns-clause-others : goal.returns-clause-others
returns-clause-others c = λ k e. c.write.ensures.others k e ∙ c.grow.ensures.same k
