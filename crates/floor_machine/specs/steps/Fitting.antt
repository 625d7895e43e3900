-- What the machine tells shows no more than a conference has, and so fits a message (RFC 8855, sections 5.1 and 5.2).
use Rattle.std.specs.Prelude.{ℕ, ◌^◌, ◌<◌, ◌≤◌, List, length, All, Option, IfSome}
use Rattle.floor_config.specs.declared.floors.Floor.{Floor}
use Rattle.floor_queue.specs.declared.request.Request.{Request}
use Rattle.floor_queue.specs.Queue.{IsAddable, IsReason, new_of}
use Rattle.floor_message.specs.Shown.{IsShown}
use Rattle.floor_machine.specs.declared.course.Ended.{Ended}
use Rattle.floor_machine.specs.declared.decision.Reply.{Reply as Replying}
use Rattle.floor_machine.specs.declared.decision.Reply.TheVariants as say
use Rattle.floor_machine.specs.declared.replied.Replied.{Replied}
use Rattle.floor_machine.specs.declared.tell.changed.Update.{Update}
use Rattle.floor_machine.specs.steps.Outcomes.{FloorUpdate}
use Rattle.floor_machine.specs.declared.event.Event.{Event}
use Rattle.floor_machine.specs.Conference.{Conference}
use Rattle.floor_machine.specs.Outgoing.{Outgoing}
use Rattle.floor_machine.specs.Told.{due}

-- the numbers of a floor request and of its users are of 16 bits
pub record HasNumbers (r : Request) : Type 0 where
  pub number : r.number < 2 ^ 16
  pub requester : r.requester < 2 ^ 16
  pub beneficiary : r.beneficiary < 2 ^ 16

-- the request is one that could be added: at most 8 floors, a priority of at most 4, a text of at most 62 bytes; and its reason,
-- where it has one, has at most 30 bytes
pub record IsFit (floors : List Floor) (r : Request) : Type 0 where
  pub addable : IsAddable floors (new_of r)
  pub reason : IfSome r.reason IsReason

-- each request that ended is so
abbrev pub AreFit : List Floor → List Ended → Type 0
AreFit floors ended = All (λ d. IsFit floors d.request) ended

-- the details of an Error are at most 252 bytes
abbrev pub DetailsFit : Replying → Type 0
DetailsFit (say.Error code details) = length details ≤ 252
DetailsFit _ = Unit {0}

-- the messages of the reply, if there is one, show no more than a conference has
abbrev pub IsReplyShown : Option Replied → Type 0
IsReplyShown reply = IfSome reply (λ r. All IsShown r.tells)

-- so do the statuses of the changed requests
abbrev pub AreUpdatesShown : List Update → Type 0
AreUpdatesShown updates = All (λ u. IsShown u.tell) updates

-- and those of the changed floors
abbrev pub AreFloorsShown : List FloorUpdate → Type 0
AreFloorsShown updates = All (λ u. IsShown u.tell) updates

-- messages that show no more than a conference has
abbrev pub AreMessagesShown : List Outgoing → Type 0
AreMessagesShown messages = All (λ message. IsShown message.tell) messages

-- each message that is due to a member after the event shows no more than a conference has
abbrev pub IsToldShown : Conference → Event → Type 0
IsToldShown s e = (n : ℕ) → AreMessagesShown (due s e n)
