use Rattle.std.proofs.Common.{sym, ◌∙◌}
use Rattle.floor_turn.proofs.server.Server.read_next.Goals as goal

pub returns-then-not-is_held_at-clause-offered : goal.returns-then-not-is_held_at-clause-offered
returns-then-not-is_held_at-clause-offered c = sym c.is_held_at.ensures.value ∙ c.if-not-is_held_at.true
