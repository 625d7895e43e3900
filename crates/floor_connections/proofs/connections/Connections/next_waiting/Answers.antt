use Rattle.std.proofs.Common.{sym, ap, ◌∙◌}
use Rattle.floor_connections.specs.Conferences.{is_held}
use Rattle.floor_connections.specs.Table.{socket_at, waiting_of}
use Rattle.floor_connections.proofs.Waiting.{waiting_there}
use Rattle.floor_connections.proofs.connections.Connections.next_waiting.Goals as goal

pub returns-then-not-is_held-clause-found : goal.returns-then-not-is_held-clause-found
returns-then-not-is_held-clause-found c =
    let w = waiting_there (waiting_of (socket_at c.loop-look.self.table c.in_ok-slot.slot)) c.in-Some.conference c.in-Some.ensures.value in
    (w.0, w.1, ap (is_held c.loop-look.self.conferences) w.2 ∙ (sym c.is_held.ensures.value ∙ c.if-not-is_held.true))
