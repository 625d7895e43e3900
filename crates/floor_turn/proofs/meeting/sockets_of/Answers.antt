use Rattle.std.proofs.Common.{◌∙◌, ap, subst}
use Rattle.floor_loop.specs.Loop.{Loop}
use Rattle.floor_hub.specs.Hub.{room_at}
use Rattle.floor_hub.specs.Members.{AreMembers}
use Rattle.floor_turn.proofs.meeting.sockets_of.Goals as goal

pub returns-in-Ok : goal.returns-in-Ok
returns-in-Ok c = record {
  found = λ r at.
      (c.in-Ok.live.now, subst (λ (l : Loop). AreMembers l.hub c.args.conference c.in-Ok.live.now) c.hub.ensures.value (c.in-Ok.ensures.found r (ap (λ (l : Loop). room_at l.hub c.args.conference) c.hub.ensures.value ∙ at)), c.count_of.ensures.value);
}

pub returns-in-Err : goal.returns-in-Err
returns-in-Err c = record { found = λ r at. absurd (c.in-Err.ensures.found r (ap (λ (l : Loop). room_at l.hub c.args.conference) c.hub.ensures.value ∙ at)) }
