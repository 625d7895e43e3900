use Rattle.std.proofs.Common.{inl, inr}
use Rattle.floor_desk.specs.Attending.{beside}
use Rattle.floor_service.proofs.Attending.{attended_then}
use Rattle.floor_service.proofs.Moving.{moved_and_same, moved_then}
use Rattle.floor_service.proofs.service.Service.next_of_server.Goals as goal

pub returns-in-Serve-clause-moves : goal.returns-in-Serve-clause-moves
returns-in-Serve-clause-moves c = moved_then _ _ _ c.next.ensures.moves c.serve_turn.ensures.moves

pub returns-in-Serve-clause-served : goal.returns-in-Serve-clause-served
returns-in-Serve-clause-served c = inr (c.in-Serve.socket, c.serve_turn.ensures.served)

pub returns : goal.returns
returns c = record {
  rest = tt;
  moves = moved_and_same _ _ _ (moved_then _ _ _ c.next.ensures.moves c.follow.ensures.moves) c.done_here.ensures.meetings;
  served = inl (attended_then beside _ _ _ c.follow.ensures.attends c.done_here.ensures.attends);
}
