-- The one way of an event: what a decision has made of a conference before it is settled, and what the event has done in the end.
use Rattle.std.specs.Prelude.{◌≡◌, ◌++◌, true, false, List, [], All, Option, Some, None, Result, Ok, Err, IfErr, OnErr, OnOk, map}
use Rattle.floor_queue.specs.Order.{settle}
use Rattle.floor_message.specs.Shown.{IsShownInfo}
use Rattle.floor_message.specs.declared.information.Info.{Info}
use Rattle.floor_machine.specs.declared.conference.State.{State}
use Rattle.floor_machine.specs.declared.course.Course.{Course}
use Rattle.floor_machine.specs.declared.decision.Change.{Change as Decided}
use Rattle.floor_machine.specs.declared.event.Event.{Event}
use Rattle.floor_machine.specs.declared.event.Event.TheVariants.{Close}
use Rattle.floor_machine.specs.Change.{Change, settled}
use Rattle.floor_machine.specs.Conference.{Conference}
use Rattle.floor_machine.specs.Journal.{parcels_of}
use Rattle.floor_machine.specs.declared.machine.Refusal.{Refusal}
use Rattle.floor_machine.specs.Machine.{Applied, IsRefusedBy, Left, Machine, event_refusal, infos_changed}
use Rattle.floor_machine.specs.Next.{next}
use Rattle.floor_machine.specs.Parcel.{Parcel}
use Rattle.floor_machine.specs.Reply.{infos}
use Rattle.floor_machine.specs.Shown.{entry_of, info}
use Rattle.floor_machine.specs.steps.Deciding.{change_by, is_closing}
use Rattle.floor_machine.specs.steps.Fitting.{IsToldShown}
use Rattle.floor_machine.specs.steps.Renewing.{IsCourse}
use Rattle.floor_machine.specs.steps.Serving.{IsAtRest, IsMade, conference_of}

-- What a decision has made of s: t, which isn't settled yet, with the course that has noted what it changed, and what was shown before it.
pub record IsUnderWay (s : State) (c : Decided) (t : State) (course : Course) : Type 0 where
  pub made : IsMade (conference_of s) (change_by (conference_of s) c) (conference_of t) course
  pub before : course.before.items ≡ infos (conference_of s)
  pub fit : All IsShownInfo course.before.items
  pub known : IsCourse t.config t.requests.ongoing course.before.items course
  pub unclosed : is_closing c ≡ false

-- The change leaves each request as it is, none of which is due then, and as it is shown: t has another configuration and other members
-- at the most.
pub record IsKept (s : Conference) (c : Change) (t : Conference) : Type 0 where
  pub entries : c.entries ≡ map entry_of s.ongoing
  pub settled : settle c.config.floors s.ongoing ≡ s.ongoing
  pub infos : map (info c.config s.ongoing) s.ongoing ≡ infos s
  pub given : c.given ≡ s.given
  pub is_open : c.is_open ≡ s.is_open
  pub next : t ≡ record s { config = c.config; members = c.members }

-- A decision that gives no course has made t of s, a conference at rest: it keeps each request as it is shown, or ends the conference.
pub record IsQuiet (s : State) (c : Decided) (t : State) : Type 0 where
  pub rest : IsAtRest t
  pub kept : is_closing c ≡ false → IsKept (conference_of s) (change_by (conference_of s) c) (conference_of t)
  pub closed : is_closing c ≡ true → conference_of t ≡ settled (conference_of s) Close

-- what a decision has made of s
abbrev pub IsTaken : State → Decided → State → Option Course → Type 0
IsTaken s c t (Some course) = IsUnderWay s c t course
IsTaken s c t None = IsQuiet s c t

-- What an event has done in the end: t is the next conference, what it tells stands behind what was there before, and shows no more than
-- a conference has, and what is shown of the requests that it changed is handed out.
pub record IsServed (s : Conference) (e : Event) (t : Conference) (before after : List Parcel) (handed : List Info) : Type 0 where
  pub next : t ≡ next s e
  pub out : after ≡ before ++ parcels_of s e
  pub shown : IsToldShown s e
  pub changed : handed ≡ infos_changed s e

-- a call that was done, or why it wasn't: of what it gave nothing is said
abbrev pub done : {T E : Type 0} → Result T E → Result (Unit {0}) E
done (Ok value) = Ok tt
done (Err why) = Err why

-- What a call made of an event: the machine took it, and has handed out what it changed, or refused it, and why.
pub record IsTried (old : Machine) (e : Event) (new : Machine) (before after : List Parcel) (handed : List Info) (result : Result (Unit {0}) Refusal) : Type 0 where
  pub took : OnOk result (Applied old e new before after)
  pub refused : IsRefusedBy (event_refusal old e) result
  pub left : IfErr result (Left old e new before after)
  pub changed : OnOk result (handed ≡ infos_changed old.conference e)
  pub unchanged : OnErr result (handed ≡ [])
