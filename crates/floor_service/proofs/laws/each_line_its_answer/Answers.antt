use Rattle.floor_service.proofs.Living.{each_line_its_answer}
use Rattle.floor_service.proofs.laws.each_line_its_answer.Goals as goal

pub returns : goal.returns
returns c = each_line_its_answer c.each_line_its_answer.ensures
