use Rattle.floor_control.proofs.Tagging.{tags_stand}
use Rattle.floor_control.proofs.laws.tags_stand_before_lines.Goals as goal

pub returns : goal.returns
returns c = tags_stand
