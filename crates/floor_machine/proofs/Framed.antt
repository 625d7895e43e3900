-- What a decision has made of a conference, and what the event has done in the end.
use Rattle.std.proofs.Common.{◌≡◌, true, false, List, [], ◌++◌, map, Option, refl, sym, ap, subst, ◌∙◌}
use Rattle.std.specs.Prelude.{All, filter, option_map}
use Rattle.floor_queue.specs.Queue.{after_settle, numbers_of}
use Rattle.floor_message.specs.Shown.{IsShownInfo}
use Rattle.floor_message.specs.declared.information.Info.{Info}
use Rattle.floor_machine.specs.declared.conference.State.{State}
use Rattle.floor_machine.specs.declared.course.Course.{Course}
use Rattle.floor_machine.specs.declared.decision.Change.{Change as Decided}
use Rattle.floor_machine.specs.declared.decision.Decision.{Decision}
use Rattle.floor_machine.specs.declared.decision.Sender.{Sender}
use Rattle.floor_machine.specs.declared.event.Event.{Event}
use Rattle.floor_machine.specs.declared.replied.Replied.{Replied}
use Rattle.floor_machine.specs.declared.tell.renewing.Changes.{Changes}
use Rattle.floor_machine.specs.Conference.{Conference, is_numbered_from}
use Rattle.floor_machine.specs.Change.{change, settled}
use Rattle.floor_machine.specs.Machine.{infos_changed}
use Rattle.floor_machine.specs.Parcel.{Parcel}
use Rattle.floor_machine.specs.Reply.{said_reply}
use Rattle.floor_machine.specs.steps.Counting.{counted_all, due_parcels, told_of_all}
use Rattle.floor_machine.specs.steps.Deciding.{ComesTo, change_by, is_closing}
use Rattle.floor_machine.specs.steps.Fitting.{AreFit, AreFloorsShown, AreUpdatesShown, IsReplyShown}
use Rattle.floor_machine.specs.steps.Frame.{IsServed, IsUnderWay}
use Rattle.floor_machine.specs.steps.Marks.{mark_of}
use Rattle.floor_machine.specs.steps.Serving.{IsAtRest, IsChanged, IsMade, conference_of, is_rising, replied_by, with_requests}
use Rattle.floor_machine.specs.steps.Telling.{floors_changed, infos_told, is_watched_by, parcels_to_all, said_of, updates}
use Rattle.floor_machine.proofs.Bounds.{served-shown}
use Rattle.floor_machine.proofs.Comes.{answered-comes, change-comes, said-comes, telling-comes, untaking-comes}
use Rattle.floor_machine.proofs.Counted.{counted-all, told-all}
use Rattle.floor_machine.proofs.Courses.{course-changed, course-marked}
use Rattle.floor_machine.proofs.Handed.{handed-told}
use Rattle.floor_machine.proofs.Kept.{IsCalledFor}
use Rattle.floor_machine.proofs.Served.{ended-shown, numbers-shown, parcels-served, settled-state, updates-message}
use Rattle.floor_machine.proofs.Settled.{IsSettledTo, floors-shown, parcels-settled}

-- a change whose marks have noted what it changed
pub under_way : (s t : State) (c : Decided) (course : Course) → IsAtRest s → is_closing c ≡ false → IsChanged (conference_of s) (change_by (conference_of s) c) (conference_of t) course →
    course.before.items ≡ s.shown.items → AreFit t.config.floors course.ended.items → IsUnderWay s c t course
under_way s t c course rest unclosed changed before fit =
    record {
      made = changed.made;
      before = before ∙ rest.shows.infos;
      fit = subst (All IsShownInfo) (sym before) rest.shows.fit;
      known = course-changed (conference_of s) (conference_of t) (change_by (conference_of s) c) course changed (before ∙ rest.shows.infos) fit;
      unclosed = unclosed;
    }

-- a change that has marked all requests, and ends none of them
pub under_way-marked : (s t : State) (c : Decided) (course : Course) → IsAtRest s → is_closing c ≡ false → IsMade (conference_of s) (change_by (conference_of s) c) (conference_of t) course →
    course.before.items ≡ s.shown.items → course.ended.items ≡ [] → course.marks.items ≡ map mark_of s.requests.ongoing → numbers_of t.requests.ongoing ≡ numbers_of s.requests.ongoing →
    IsUnderWay s c t course
under_way-marked s t c course rest unclosed made before none marks numbers =
    record {
      made = made;
      before = before ∙ rest.shows.infos;
      fit = subst (All IsShownInfo) (sym before) rest.shows.fit;
      known = course-marked (conference_of s) (conference_of t) (change_by (conference_of s) c) course made (before ∙ rest.shows.infos) none marks numbers;
      unclosed = unclosed;
    }

-- what gives a course is told as it is found, once the requests are settled
pub course-called : (S before after : State) (sender : Option Sender) (d : Decision) (course : Course) (changes : Changes) (o : Option Replied) → is_numbered_from 1 S.members ≡ true →
    IsUnderWay S d.change before course → IsSettledTo before after course changes → AreUpdatesShown changes.updates →
    o ≡ option_map (replied_by (conference_of after) course.ended.items d.reply) sender → IsReplyShown o →
    AreFloorsShown (filter (is_watched_by after.members) (floors_changed after.shown.items changes.floors.items after.config.floors)) →
    (e : Event) → ComesTo (conference_of S) e sender d →
    IsCalledFor (conference_of S) e (conference_of after)
    (parcels_to_all after.config.conference o changes.updates (floors_changed after.shown.items changes.floors.items after.config.floors) after.members)
course-called S before after sender d course changes o numbered way to updates is shown floors e h =
    let s : Conference = conference_of S in
    let same : change s e ≡ change_by s d.change = change-comes s e sender d h in
    let telling = telling-comes s e sender d h way.unclosed in
    let t : Conference = with_requests (conference_of before) (after_settle before.requests) in
    let next : t ≡ settled s e = settled-state s e (change_by s d.change) before course (after_settle before.requests) same way.made refl in
    let ended = ended-shown s e (change_by s d.change) (conference_of before) course same way.made in
    let numbers = numbers-shown s e (change_by s d.change) (conference_of before) course same way.made in
    let answered = answered-comes s e sender d course.ended.items o h ended (ap is_rising (sym numbers) ∙ way.made.rising)
    (is ∙ ap (λ (x : Conference). option_map (replied_by x course.ended.items d.reply) sender) (to.next ∙ next)) in
    record {
      next = to.next ∙ next;
      parcels =
          parcels-settled before after course changes o to
          ∙ parcels-served s e t course o telling next numbered ended numbers way.made.rising way.before answered;
      shown =
          served-shown s e t course o telling next ended numbers way.made.rising way.before answered shown
          (subst AreUpdatesShown to.updates updates) (floors-shown before after course changes to floors);
    }

-- who says the message is handed what it calls for
pub course-said : (S before after : State) (sender : Option Sender) (d : Decision) (course : Course) (changes : Changes) (o : Option Replied) → IsUnderWay S d.change before course → IsSettledTo before after course changes →
    o ≡ option_map (replied_by (conference_of after) course.ended.items d.reply) sender → (e : Event) → ComesTo (conference_of S) e sender d → said_of o ≡ said_reply (conference_of S) e
course-said S before after sender d course changes o way to is e h =
    let s : Conference = conference_of S in
    let same : change s e ≡ change_by s d.change = change-comes s e sender d h in
    let next : with_requests (conference_of before) (after_settle before.requests) ≡ settled s e = settled-state s e (change_by s d.change) before course (after_settle before.requests) same way.made refl in
    let ended = ended-shown s e (change_by s d.change) (conference_of before) course same way.made in
    let numbers = numbers-shown s e (change_by s d.change) (conference_of before) course same way.made in
    said-comes s e sender d course.ended.items o h ended (ap is_rising (sym numbers) ∙ way.made.rising)
    (is ∙ ap (λ (x : Conference). option_map (replied_by x course.ended.items d.reply) sender) (to.next ∙ next))

-- the statuses of what gives a course show what the event changed
pub course-handed : (S before after : State) (sender : Option Sender) (d : Decision) (course : Course) (changes : Changes) → IsUnderWay S d.change before course → IsSettledTo before after course changes →
    (e : Event) → ComesTo (conference_of S) e sender d → infos_told changes.updates ≡ infos_changed (conference_of S) e
course-handed S before after sender d course changes way to e h =
    let s : Conference = conference_of S in
    let same : change s e ≡ change_by s d.change = change-comes s e sender d h in
    let t : Conference = with_requests (conference_of before) (after_settle before.requests) in
    let next : t ≡ settled s e = settled-state s e (change_by s d.change) before course (after_settle before.requests) same way.made refl in
    let ended = ended-shown s e (change_by s d.change) (conference_of before) course same way.made in
    let numbers = numbers-shown s e (change_by s d.change) (conference_of before) course same way.made in
    handed-told s e changes.updates
    (to.updates
    ∙ ap (λ (x : Conference). updates x.config x.ongoing course.ended.items course.before.items course.numbers.items) next
    ∙ updates-message s e course ended numbers way.made.rising way.before)

-- what is called for is told and counted, and what changed is handed out
pub served : (s : Conference) (e : Event) (sender : Option Sender) (d : Decision) (t u : Conference) (ps before after : List Parcel) (changed : List Info) → ComesTo s e sender d → is_numbered_from 1 s.members ≡ true →
    IsCalledFor s e t ps → changed ≡ infos_changed s e → after ≡ before ++ told_of_all ps t.members → u ≡ counted_all ps t → IsServed s e u before after changed
served s e sender d t u ps before after changed h numbered called handed told counted =
    let untaking = untaking-comes s e sender d h in
    record {
      next = counted ∙ ap (λ (qs : List Parcel). counted_all qs t) called.parcels ∙ ap (counted_all (due_parcels s e)) called.next ∙ counted-all s e untaking numbered;
      out =
          told
          ∙ ap (λ (qs : List Parcel). before ++ told_of_all qs t.members) called.parcels
          ∙ ap (λ (x : Conference). before ++ told_of_all (due_parcels s e) x.members) called.next
          ∙ ap (λ (qs : List Parcel). before ++ qs) (told-all s e untaking numbered);
      shown = called.shown;
      changed = handed;
    }
