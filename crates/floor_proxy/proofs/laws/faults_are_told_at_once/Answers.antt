use Rattle.floor_proxy.proofs.InTime as lemma
use Rattle.floor_proxy.proofs.laws.faults_are_told_at_once.Goals as goal

pub returns : goal.returns
returns c = lemma.faults_are_told_at_once
