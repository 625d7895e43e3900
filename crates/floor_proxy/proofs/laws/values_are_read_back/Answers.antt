use Rattle.floor_proxy.proofs.Rereading as lemma
use Rattle.floor_proxy.proofs.laws.values_are_read_back.Goals as goal

pub returns : goal.returns
returns c = lemma.values_are_read_back
