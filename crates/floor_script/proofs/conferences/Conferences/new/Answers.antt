use Rattle.floor_script.proofs.Standing.{stands_new}
use Rattle.floor_script.proofs.conferences.Conferences.new.Goals as goal

pub returns : goal.returns
returns c = record { value = stands_new _ c.new.ensures.value c.new-2.ensures.conferences c.new-2.ensures.lives }
