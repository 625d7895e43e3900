use Rattle.std.proofs.Common.{◌≡◌, Some, refl, sym, ◌∙◌, ap}
use Rattle.floor_loop.specs.Laws.{IsNew}
use Rattle.floor_meetings.specs.Meetings.{member_at}
use Rattle.floor_meetings.specs.declared.members.Member.{Member}
use Rattle.floor_turn.proofs.Entering.{Declined, at_port_refused, client_there, no_client, no_port_refused, not_clients_door, not_clients_health, not_clients_port}
use Rattle.floor_turn.proofs.Handing.{at_port, no_port, not_control, not_door, not_health, not_observe}
use Rattle.floor_turn.proofs.Moving.{moves_same}
use Rattle.floor_turn.proofs.Sparing.{free_same}
use Rattle.floor_turn.specs.Held.{is_held_place}
use Rattle.floor_turn.proofs.server.Server.come_in.Goals as goal

pub returns-in-Port-clause-joined : goal.returns-in-Port-clause-joined
returns-in-Port-clause-joined c =
    let new = c.enter_at_port.new.self.meetings in
    at_port c.enter_at_port.result c.args.peer.place _ _ _
    (λ s d u. (m : Member) × (member_at new s ≡ Some m) × (m.conference ≡ d) × (m.user ≡ u) × IsNew new.hub m.number) c.in-Port.is c.enter_at_port.ensures.joined

pub returns-in-Door-clause-joined : goal.returns-in-Door-clause-joined
returns-in-Door-clause-joined c =
    let old = c.args.self.now.meetings in
    no_port c.open_at_door.result c.args.peer.place (λ s d u. (m : Member) × (member_at old s ≡ Some m) × (m.conference ≡ d) × (m.user ≡ u) × IsNew old.hub m.number)
    (λ d u p is. not_door _ _ d u p (sym c.in-Door.is ∙ is))

pub returns-in-Health-clause-joined : goal.returns-in-Health-clause-joined
returns-in-Health-clause-joined c =
    let old = c.args.self.now.meetings in
    no_port c.open_probe.result c.args.peer.place (λ s d u. (m : Member) × (member_at old s ≡ Some m) × (m.conference ≡ d) × (m.user ≡ u) × IsNew old.hub m.number)
    (λ d u p is. not_health _ d u p (sym c.in-Health.is ∙ is))

pub returns-in-Door-clause-moves : goal.returns-in-Door-clause-moves
returns-in-Door-clause-moves c = moves_same c.args.self.now.meetings c.args.self.now.meetings refl

pub returns-in-Health-clause-moves : goal.returns-in-Health-clause-moves
returns-in-Health-clause-moves c = moves_same c.args.self.now.meetings c.args.self.now.meetings refl

pub returns-in-Control-clause-joined : goal.returns-in-Control-clause-joined
returns-in-Control-clause-joined c =
    let old = c.args.self.now.meetings in
    no_port c.open_client.result c.args.peer.place (λ s d u. (m : Member) × (member_at old s ≡ Some m) × (m.conference ≡ d) × (m.user ≡ u) × IsNew old.hub m.number)
    (λ d u p is. not_control d u p (sym c.in-Control.is ∙ is))

pub returns-in-Control-clause-moves : goal.returns-in-Control-clause-moves
returns-in-Control-clause-moves c = moves_same c.args.self.now.meetings c.args.self.now.meetings refl

pub returns-in-Observe-clause-joined : goal.returns-in-Observe-clause-joined
returns-in-Observe-clause-joined c =
    let old = c.args.self.now.meetings in
    no_port c.open_client-in-Observe.result c.args.peer.place (λ s d u. (m : Member) × (member_at old s ≡ Some m) × (m.conference ≡ d) × (m.user ≡ u) × IsNew old.hub m.number)
    (λ d u p is. not_observe d u p (sym c.in-Observe.is ∙ is))

pub returns-in-Observe-clause-moves : goal.returns-in-Observe-clause-moves
returns-in-Observe-clause-moves c = moves_same c.args.self.now.meetings c.args.self.now.meetings refl

pub returns-in-Port-clause-refused : goal.returns-in-Port-clause-refused
returns-in-Port-clause-refused c = at_port_refused c.enter_at_port.result c.args.peer.place _ _ _ (Declined c.args.self.now.connections.conferences c.args.self.now.meetings c.enter_at_port.new.self.meetings) c.in-Port.is c.enter_at_port.ensures.refused

pub returns-in-Door-clause-refused : goal.returns-in-Door-clause-refused
returns-in-Door-clause-refused c = no_port_refused c.open_at_door.result c.args.peer.place (Declined c.args.self.now.connections.conferences c.args.self.now.meetings c.args.self.now.meetings) (λ d u p is. not_door _ _ d u p (sym c.in-Door.is ∙ is))

pub returns-in-Health-clause-refused : goal.returns-in-Health-clause-refused
returns-in-Health-clause-refused c = no_port_refused c.open_probe.result c.args.peer.place (Declined c.args.self.now.connections.conferences c.args.self.now.meetings c.args.self.now.meetings) (λ d u p is. not_health _ d u p (sym c.in-Health.is ∙ is))

pub returns-in-Control-clause-refused : goal.returns-in-Control-clause-refused
returns-in-Control-clause-refused c = no_port_refused c.open_client.result c.args.peer.place (Declined c.args.self.now.connections.conferences c.args.self.now.meetings c.args.self.now.meetings) (λ d u p is. not_control d u p (sym c.in-Control.is ∙ is))

pub returns-in-Observe-clause-refused : goal.returns-in-Observe-clause-refused
returns-in-Observe-clause-refused c = no_port_refused c.open_client-in-Observe.result c.args.peer.place (Declined c.args.self.now.connections.conferences c.args.self.now.meetings c.args.self.now.meetings) (λ d u p is. not_observe d u p (sym c.in-Observe.is ∙ is))

pub returns-in-Port-clause-client : goal.returns-in-Port-clause-client
returns-in-Port-clause-client c = no_client c.enter_at_port.result c.enter_at_port.new.self.connections.table c.args.peer.place (not_clients_port c.args.peer.place _ _ _ c.in-Port.is)

pub returns-in-Door-clause-client : goal.returns-in-Door-clause-client
returns-in-Door-clause-client c = no_client c.open_at_door.result c.open_at_door.new.self.table c.args.peer.place (not_clients_door c.args.peer.place _ _ c.in-Door.is)

pub returns-in-Health-clause-client : goal.returns-in-Health-clause-client
returns-in-Health-clause-client c = no_client c.open_probe.result c.open_probe.new.self.table c.args.peer.place (not_clients_health c.args.peer.place _ c.in-Health.is)

pub returns-in-Control-clause-client : goal.returns-in-Control-clause-client
returns-in-Control-clause-client c = client_there c.open_client.result c.open_client.new.self.table c.args.peer.place c.open_client.ensures.there

pub returns-in-Observe-clause-client : goal.returns-in-Observe-clause-client
returns-in-Observe-clause-client c = client_there c.open_client-in-Observe.result c.open_client-in-Observe.new.self.table c.args.peer.place c.open_client-in-Observe.ensures.there

pub returns-in-Port-clause-spares : goal.returns-in-Port-clause-spares
returns-in-Port-clause-spares c = λ free. c.enter_at_port.ensures.spares (ap (is_held_place c.args.self.now.connections.conferences) (sym c.in-Port.is) ∙ free)

pub returns-in-Door-clause-spares : goal.returns-in-Door-clause-spares
returns-in-Door-clause-spares c = λ free. free_same c.args.self.now.connections.conferences c.args.self.now.meetings c.args.self.now.meetings refl

pub returns-in-Health-clause-spares : goal.returns-in-Health-clause-spares
returns-in-Health-clause-spares c = λ free. free_same c.args.self.now.connections.conferences c.args.self.now.meetings c.args.self.now.meetings refl

pub returns-in-Control-clause-spares : goal.returns-in-Control-clause-spares
returns-in-Control-clause-spares c = λ free. free_same c.args.self.now.connections.conferences c.args.self.now.meetings c.args.self.now.meetings refl

pub returns-in-Observe-clause-spares : goal.returns-in-Observe-clause-spares
returns-in-Observe-clause-spares c = λ free. free_same c.args.self.now.connections.conferences c.args.self.now.meetings c.args.self.now.meetings refl
