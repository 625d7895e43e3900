use Rattle.floor_clients.proofs.Running as runs
use Rattle.floor_clients.proofs.laws.each_line_its_answer.Goals as goal

pub returns : goal.returns
returns c = runs.each_line_its_answer
