use Rattle.floor_proxy.proofs.Cuts as lemma
use Rattle.floor_proxy.proofs.laws.answers_stay.Goals as goal

pub returns : goal.returns
returns c = lemma.answers_stay
