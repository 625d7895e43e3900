-- What the events of a conference show.
use Rattle.std.specs.Prelude.{◌≡◌, ℕ, false, List, [], Option, Some, None}
use Rattle.floor_machine.specs.Machine.{Machine, infos_changed}
use Rattle.floor_machine.specs.declared.event.Event.{Event}
use Rattle.floor_message.specs.declared.information.Info.{Info}
use Rattle.floor_rpc.specs.declared.notification.EventTold.{EventTold}
use Rattle.floor_shown.specs.Events.{is_told_always}
use Rattle.floor_shown.specs.Requests.{AreShown}

-- how many events were taken, and the floor machine that took them
pub record Followed : Type 0 where
  pub place : ℕ
  pub machine : Machine

-- What an event shows that changed what is shown of these floor requests: it stands at its place, with each of them as it is shown, in their order. An event that
-- shows nothing changed none, and is none that is told always.
abbrev pub ShowsOf : Event → List Info → ℕ → Option EventTold → Type 0
ShowsOf event changed place None = (is_told_always event ≡ false) × (changed ≡ [])
ShowsOf event changed place (Some told) = (told.place ≡ place) × AreShown changed told.requests

-- the same of an event that was taken
abbrev pub TellsOf : Event → Followed → Followed → Option EventTold → Type 0
TellsOf event old new told = ShowsOf event (infos_changed old.machine.conference event) new.place told
