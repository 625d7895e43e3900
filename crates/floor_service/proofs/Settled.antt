-- What is done for clients behind a call of the server.
use Rattle.std.proofs.Common.{◌≡◌, ◌∙◌, ap, refl, subst, sym}
use Rattle.floor_hub.specs.News.{Gathered}
use Rattle.floor_loop.specs.Loop.{Loop}
use Rattle.floor_connections.proofs.Steps.{steps_same, steps_then}
use Rattle.floor_meetings.specs.Gathering.{Regathers}
use Rattle.floor_meetings.specs.declared.meetings.Meetings.{Meetings}
use Rattle.floor_turn.specs.declared.server.Server.{Server}
use Rattle.floor_service.specs.Calls.{Settles}

pub regathers_same : (a b : Meetings) → b ≡ a → Regathers a b
regathers_same a b same = subst (λ (m : Meetings). Regathers a m) (sym same) (record { hub = refl; members = refl; bounds = refl })

abbrev with : Loop → Gathered → Loop
with l g = record l { hub = record l.hub { gathered = g } }

pub regathers_then : (a b c : Meetings) → Regathers a b → Regathers b c → Regathers a c
regathers_then a b c f g = record {
  hub = g.hub ∙ ap (λ (l : Loop). with l c.hub.hub.gathered) f.hub;
  members = g.members ∙ f.members;
  bounds = g.bounds ∙ f.bounds;
}

-- nothing was done
pub settled_same : (a b : Server) → b ≡ a → Settles a b
settled_same a b same = subst (λ (s : Server). Settles a s) (sym same) (record {
  meetings = regathers_same a.meetings a.meetings refl;
  table = refl;
  steps = steps_same a.connections.sockets a.connections.sockets refl;
})

-- one behind another
pub settled_then : (a b c : Server) → Settles a b → Settles b c → Settles a c
settled_then a b c f g = record {
  meetings = regathers_then a.meetings b.meetings c.meetings f.meetings g.meetings;
  table = g.table ∙ f.table;
  steps = steps_then a.connections.sockets b.connections.sockets c.connections.sockets f.steps g.steps;
}
