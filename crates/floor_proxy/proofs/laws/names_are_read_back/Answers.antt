use Rattle.floor_proxy.proofs.Naming as lemma
use Rattle.floor_proxy.proofs.laws.names_are_read_back.Goals as goal

pub returns : goal.returns
returns c = lemma.names_are_read_back c.numbers_are_read_back.ensures
