use Rattle.floor_datagram.proofs.Telling.{told-newest, waits-newest, answered-newest, acknowledged-newest}
use Rattle.floor_datagram.proofs.laws.the_newest_is_told.Goals as goal

pub returns-clause-told : goal.returns-clause-told
returns-clause-told c = told-newest

pub returns-clause-crossed : goal.returns-clause-crossed
returns-clause-crossed c = waits-newest

pub returns-clause-answered : goal.returns-clause-answered
returns-clause-answered c = answered-newest

pub returns-clause-acknowledged : goal.returns-clause-acknowledged
returns-clause-acknowledged c = acknowledged-newest
