use Rattle.floor_service.proofs.Moving.{moved_then}
use Rattle.floor_service.proofs.service.Service.end_ports.Goals as goal

pub returns-clause-moves : goal.returns-clause-moves
returns-clause-moves c = moved_then _ _ _ c.do_or_refuse-done.ensures.moves c.end_call.ensures.moves
