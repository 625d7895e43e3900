-- What is gathered for whoever watches.
use Rattle.std.specs.Prelude.{◌≡◌}
use Rattle.floor_meetings.specs.declared.meetings.Meetings.{Meetings}

-- Nothing has changed but what is gathered.
pub record Regathers (old new : Meetings) : Type 0 where
  pub hub : new.hub ≡ record old.hub { hub = record old.hub.hub { gathered = new.hub.hub.gathered } }
  pub members : new.members ≡ old.members
  pub bounds : new.bounds ≡ old.bounds
