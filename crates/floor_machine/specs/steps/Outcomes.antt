-- What an event has made of a conference, and what its sender is answered.
use Rattle.std.specs.Prelude.{ℕ, List, Option}
use Rattle.floor_message.specs.declared.head.Head.{Head}
use Rattle.floor_message.specs.declared.information.Info.{Info}
use Rattle.floor_message.specs.declared.tell.Tell.{Tell}
use Rattle.floor_machine.specs.declared.course.Ended.{Ended}
use Rattle.floor_machine.specs.declared.tell.changed.Update.{Update}
use Rattle.floor_machine.specs.Conference.{Conference}

-- the conference after the event, what is shown of its ongoing requests, the requests that the event ended, and the statuses of those
-- that it changed
pub record Outcome : Type 0 where
  pub conference : Conference
  pub shown : List Info
  pub ended : List Ended
  pub updates : List Update

-- a floor, with its status
pub record FloorUpdate : Type 0 where
  pub floor : ℕ
  pub tell : Tell

-- what a message is answered: the number of the member that sent it, if one did, the head of the first message, and the messages
pub record Replied : Type 0 where
  pub n : Option ℕ
  pub head : Head
  pub tells : List Tell
