use Rattle.floor_kept.proofs.HeadsRead.{read_as_text}
use Rattle.floor_kept.proofs.laws.heads_read_as_their_text.Goals as goal

pub returns : goal.returns
returns c = read_as_text
