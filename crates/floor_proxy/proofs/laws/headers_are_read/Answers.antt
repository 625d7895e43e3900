use Rattle.floor_proxy.proofs.Rereading as lemma
use Rattle.floor_proxy.proofs.laws.headers_are_read.Goals as goal

pub returns : goal.returns
returns c = lemma.headers_are_read
