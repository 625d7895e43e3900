use Rattle.std.proofs.Common.{◌≡◌, ap, inl, inr, sym, ◌∙◌, Some}
use Rattle.floor_hub.specs.Hub.{is_forgotten, room_at}
use Rattle.floor_loop.specs.Loop.{Loop}
use Rattle.floor_config.specs.Configuration.{Configuration}
use Rattle.floor_turn.proofs.Entering.{at_most, below, has_room, not_there}
use Rattle.floor_turn.proofs.meeting.is_full_for.Goals as goal

pub returns-in-Ok-clause-full : goal.returns-in-Ok-clause-full
returns-in-Ok-clause-full c = λ is.
    let hub = c.hub.result.now.hub in
    let room = has_room (room_at hub c.args.conference) (is_forgotten hub c.args.conference) c.in-Ok.config _ _ c.in-Ok.ensures.no_conference c.in-Ok.ensures.forgotten in
    let there : room_at c.args.meetings.now.hub.hub c.args.conference ≡ Some room.0 = ap (λ (l : Loop). room_at l.hub c.args.conference) (sym c.hub.ensures.value) ∙ room.1 in
    let own = c.sockets_of.ensures.found room.0 there in
    record {
      room = room.0;
      there = there;
      live = own.0;
      members = own.1;
      full = at_most _ _ _ _ (c.are_all.ensures.full is) (c.connections.ensures.value ∙ ap (λ (g : Configuration). g.connections) (c.in-Ok.ensures.found room.0 room.1)) own.2;
    }

pub returns-in-Ok-clause-may : goal.returns-in-Ok-clause-may
returns-in-Ok-clause-may c = λ is.
    let hub = c.hub.result.now.hub in
    let room = has_room (room_at hub c.args.conference) (is_forgotten hub c.args.conference) c.in-Ok.config _ _ c.in-Ok.ensures.no_conference c.in-Ok.ensures.forgotten in
    let there : room_at c.args.meetings.now.hub.hub c.args.conference ≡ Some room.0 = ap (λ (l : Loop). room_at l.hub c.args.conference) (sym c.hub.ensures.value) ∙ room.1 in
    let own = c.sockets_of.ensures.found room.0 there in
    inr (record {
      room = room.0;
      there = there;
      live = own.0;
      members = own.1;
      free = below _ _ _ _ (c.are_all.ensures.free is) (c.connections.ensures.value ∙ ap (λ (g : Configuration). g.connections) (c.in-Ok.ensures.found room.0 room.1)) own.2;
    })

pub returns-in-Err-clause-may : goal.returns-in-Err-clause-may
returns-in-Err-clause-may c = λ is. inl (ap (λ (l : Loop). room_at l.hub c.args.conference) (sym c.hub.ensures.value) ∙ not_there (room_at c.hub.result.now.hub c.args.conference) c.in-Err.ensures.found)
