-- What is told to whoever watches.
use Rattle.std.specs.Prelude.{ℕ, Bool, true, false, nat_eq, Option, Some, None}
use Rattle.floor_rpc.specs.declared.notification.Happened.{Happened}
use Rattle.floor_rpc.specs.declared.notification.Happened.TheVariants as happened
use Rattle.floor_rpc.specs.declared.notification.Notification.{Notification}
use Rattle.floor_rpc.specs.declared.notification.Notification.TheVariants.{Event, Server}
use Rattle.floor_clients.specs.Watched.{Watched, next_of}
use Rattle.floor_clients.specs.declared.mode.Mode.{Mode}
use Rattle.floor_clients.specs.declared.mode.Mode.TheVariants.{Control, Observer}

-- a notification, and the place of its conference that whoever is told it is told next: an event's own, else the next event's
pub record Told : Type 0 where
  pub what : Notification
  pub place : ℕ

-- the conference that it is of
abbrev pub conference_of : Notification → ℕ
conference_of (Event e) = e.conference
conference_of (Server s) = s.conference

-- it is what an event shows
abbrev pub is_event : Notification → Bool
is_event (Event e) = true
is_event (Server s) = false

-- a conference that is watched by its number is heard of at the place that is told next, and any other where all are watched
abbrev pub hears_at : Option ℕ → Bool → ℕ → Bool
hears_at (Some next) all place = nat_eq next place
hears_at None all place = all

abbrev pub hears : Watched → ℕ → ℕ → Bool
hears w conference place = hears_at (next_of w conference) w.all place

abbrev pub hears_words : Mode → Bool → Bool
hears_words Control hears = hears
hears_words Observer hears = false

-- of what happened beside the events, that a conference is opened or forgotten is told to who watches all; words aren't told to observers; all else is told to who hears of the conference
abbrev pub is_wanted_of : Mode → Bool → Bool → Happened → Bool
is_wanted_of mode all hears happened.Opened = all
is_wanted_of mode all hears happened.Forgotten = all
is_wanted_of mode all hears happened.Broken = hears
is_wanted_of mode all hears happened.Unkept = hears
is_wanted_of mode all hears (happened.Word w) = hears_words mode hears
is_wanted_of mode all hears (happened.Away m) = hears
is_wanted_of mode all hears (happened.Back m) = hears
is_wanted_of mode all hears (happened.Removed u) = hears
is_wanted_of mode all hears (happened.Admitted u) = hears

-- what an event shows is told to who hears of the conference
abbrev pub is_wanted_by : Mode → Bool → Bool → Notification → Bool
is_wanted_by mode all hears (Event e) = hears
is_wanted_by mode all hears (Server s) = is_wanted_of mode all hears s.what

abbrev pub is_wanted : Mode → Watched → Told → Bool
is_wanted mode w t = is_wanted_by mode w.all (hears w (conference_of t.what) t.place) t.what
