use Rattle.std.proofs.Common.{refl, sym, ◌∙◌}
use Rattle.floor_sockets.specs.Runs.{Unaccepted}
use Rattle.floor_connections.proofs.Steps.{steps_by}
use Rattle.floor_turn.proofs.server.Server.accept_next.Goals as goal

pub returns-then-not-is_held_listener-clause-offered : goal.returns-then-not-is_held_listener-clause-offered
returns-then-not-is_held_listener-clause-offered c = sym c.is_held_listener.ensures.value ∙ c.if-not-is_held_listener.true

pub returns-clause-steps : goal.returns-clause-steps
returns-clause-steps c = steps_by (Unaccepted c.args.listener) c.args.self.now.connections.sockets c.unaccepted.new.self (λ slot. refl) c.unaccepted.ensures.took
