use Rattle.std.proofs.Common.{◌≡◌, Bool, true, false, [], refl, ap, ◌∙◌, Some, None}
use Rattle.std.specs.Prelude.{Option}
use Rattle.floor_room.specs.Room.{Room}
use Rattle.floor_hub.specs.Hub.{is_forgotten, room_at}
use Rattle.floor_hub.specs.Members.{AreMembers}
use Rattle.floor_loop.specs.Away.{Away, away_among}
use Rattle.floor_loop.proofs.Gathering.{if-ok, no-members}
use Rattle.floor_loop.proofs.coming.gather.Goals as goal

pub returns-in-Ok : goal.returns-in-Ok
returns-in-Ok c =
    record {
      value = λ l. if-ok c.among.result (λ back is. (c.in-Ok.live.now, members (room_at c.args.hub.now c.args.conference) refl, is ∙ ap (λ (a : Away). away_among a c.args.user c.in-Ok.live.now) c.away.ensures.value)) c.among.ensures.value;
    }
  where
    members : (z : Option Room) → room_at c.args.hub.now c.args.conference ≡ z → AreMembers c.args.hub.now c.args.conference c.in-Ok.live.now
    members None e = by (is_forgotten c.args.hub.now c.args.conference) refl
      where
        by : (b : Bool) → is_forgotten c.args.hub.now c.args.conference ≡ b → AreMembers c.args.hub.now c.args.conference c.in-Ok.live.now
        by false f = let never = c.in-Ok.ensures.no_conference e f in absurd cc
        by true f = let never = c.in-Ok.ensures.forgotten e f in absurd cc
    members (Some r) e = c.in-Ok.ensures.found r e

pub returns-in-Err : goal.returns-in-Err
returns-in-Err c =
    record {
      value = λ l. ([], no-members c.args.hub.now c.args.attended.now c.args.conference l (none (room_at c.args.hub.now c.args.conference) refl), c.new.ensures.items);
    }
  where
    none : (z : Option Room) → room_at c.args.hub.now c.args.conference ≡ z → room_at c.args.hub.now c.args.conference ≡ None
    none None e = e
    none (Some r) e = absurd (c.in-Err.ensures.found r e)
