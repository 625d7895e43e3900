use Rattle.std.proofs.Common.{◌≡◌, sym, ap, ◌∙◌}
use Rattle.std.proofs.lemmas.Option.{none-some}
use Rattle.floor_hub.specs.Connections.{connection_at}
use Rattle.floor_hub.specs.declared.connection.Connection.{Connection}
use Rattle.floor_loop.specs.Loop.{Loop}
use Rattle.floor_connections.specs.Conferences.{is_held}
use Rattle.floor_turn.proofs.Sparing.{some_connection}
use Rattle.floor_turn.proofs.holding.is_held_by.Goals as goal

pub returns-in-Some : goal.returns-in-Some
returns-in-Some c = record {
  free = λ no x at.
      let found = c.in-Some.ensures.found in
      let same : x ≡ found.0 = some_connection x found.0 (sym at ∙ (sym (ap (λ (l : Loop). connection_at l.hub.connections c.args.number) c.hub.ensures.value) ∙ found.1)) in
      ap (is_held c.args.connections.now.conferences) (ap (λ (y : Connection). y.conference) same ∙ sym found.2) ∙ (sym c.is_held.ensures.value ∙ no);
}

pub returns-in-None : goal.returns-in-None
returns-in-None c = record {
  free = λ no x at. absurd (none-some x (sym c.in-None.ensures.none ∙ (ap (λ (l : Loop). connection_at l.hub.connections c.args.number) c.hub.ensures.value ∙ at)));
}
