-- An event that gives no course: the conference after it, and the parcels that it calls for.
use Rattle.std.proofs.Common.{◌≡◌, ℕ, Bool, true, false, cond, List, [], ◌∷◌, ◌++◌, map, Option, None, refl, sym, ap, subst, ◌∙◌}
use Rattle.std.proofs.lemmas.List.Elements.{All-nil}
use Rattle.std.specs.Prelude.{filter, option_map}
use Rattle.std.specs.List.{flat_map}
use Rattle.floor_config.specs.declared.floors.Floor.{Floor}
use Rattle.floor_queue.specs.Order.{settle}
use Rattle.floor_queue.specs.Queue.{is_ascending}
use Rattle.floor_message.specs.Shown.{IsShown}
use Rattle.floor_machine.specs.declared.conference.State.{State}
use Rattle.floor_machine.specs.declared.decision.Decision.{Decision}
use Rattle.floor_machine.specs.declared.decision.Sender.{Sender}
use Rattle.floor_machine.specs.declared.event.Event.{Event}
use Rattle.floor_machine.specs.declared.event.Event.TheVariants.{Close}
use Rattle.floor_machine.specs.declared.member.Member.{Member}
use Rattle.floor_machine.specs.declared.replied.Replied.{Replied}
use Rattle.floor_machine.specs.declared.tell.changed.Update.{Update}
use Rattle.floor_machine.specs.Conference.{Conference, is_numbered_from}
use Rattle.floor_machine.specs.Shown.{Entry, info}
use Rattle.floor_machine.specs.Change.{Change, change, no_change, settled, shown}
use Rattle.floor_machine.specs.Journal.{parcel}
use Rattle.floor_machine.specs.Machine.{infos_changed}
use Rattle.floor_machine.specs.Outgoing.{Outgoing}
use Rattle.floor_machine.specs.Parcel.{Parcel}
use Rattle.floor_machine.specs.Reply.{infos, said_reply}
use Rattle.floor_machine.specs.Told.{Changed, due, reply_to}
use Rattle.floor_machine.specs.steps.Counting.{due_parcels}
use Rattle.floor_machine.specs.steps.Deciding.{ComesTo, change_by, is_closing}
use Rattle.floor_machine.specs.steps.Fitting.{AreFloorsShown, AreUpdatesShown, IsReplyShown, IsToldShown}
use Rattle.floor_machine.specs.steps.Frame.{IsKept, IsQuiet}
use Rattle.floor_machine.specs.steps.Outcomes.{FloorUpdate}
use Rattle.floor_machine.specs.steps.Serving.{conference_of, ended_of, is_rising, is_telling, numbers_in, replied_by}
use Rattle.floor_machine.specs.steps.Telling.{answered_to, floor_update, is_watched_by, parcels_to, parcels_to_all, said_of}
use Rattle.floor_machine.proofs.Bounds.{close-shown, due-shown}
use Rattle.floor_machine.proofs.Changing.{rising-numbers}
use Rattle.floor_machine.proofs.Comes.{answered-comes, change-comes, said-comes, telling-or-close, unclosing-comes}
use Rattle.floor_machine.proofs.Entries.{ended_of-entries, numbers_in-entries}
use Rattle.floor_machine.proofs.Handed.{handed-close, none-handed}
use Rattle.floor_machine.proofs.Quiet.{IsStill, due_of-close, floors-kept, parcels-kept, requests-kept, settled-still, shown-kept}
use Rattle.floor_machine.proofs.Sent.{numbered-settled}
use Rattle.floor_machine.proofs.Served.{settled-conference}
use Rattle.floor_machine.proofs.Telling.{update_for}

-- what keeps each request as it is shown does so as an event
pub still-kept : (s : Conference) (e : Event) (c : Change) (t : Conference) → change s e ≡ c → IsKept s c t → IsStill s e
still-kept s e c t same k =
    record {
      entries = ap (λ (x : Change). x.entries) same ∙ k.entries;
      settled = ap (λ (x : Change). settle x.config.floors s.ongoing) same ∙ k.settled;
      infos = ap (λ (x : Change). map (info x.config s.ongoing) s.ongoing) same ∙ k.infos;
    }

-- and what it leaves is the conference after the event
pub next-kept : (s : Conference) (e : Event) (c : Change) (t : Conference) → change s e ≡ c → IsKept s c t → t ≡ settled s e
next-kept s e c t same k =
    k.next
    ∙ ap (λ (x : Change). record s { config = x.config; members = x.members }) (sym same)
    ∙ settled-still s e (still-kept s e c t same k) (ap (λ (x : Change). x.given) same ∙ k.given) (ap (λ (x : Change). x.is_open) same ∙ k.is_open)

-- what changes nothing keeps each request
pub kept-nothing : (s : Conference) → settle s.config.floors s.ongoing ≡ s.ongoing → IsKept s (no_change s) s
kept-nothing s is_settled = record { entries = refl; settled = is_settled; infos = refl; given = refl; is_open = refl; next = refl }

-- so does another list of members
pub kept-members : (s : Conference) (members : List Member) → settle s.config.floors s.ongoing ≡ s.ongoing → IsKept s (record (no_change s) { members = members }) (record s { members = members })
kept-members s members is_settled = record { entries = refl; settled = is_settled; infos = refl; given = refl; is_open = refl; next = refl }

-- What an event calls for in the end: the conference after it, the parcels, and that they show no more than a conference has.
pub record IsCalledFor (s : Conference) (e : Event) (t : Conference) (ps : List Parcel) : Type 0 where
  pub next : t ≡ settled s e
  pub parcels : ps ≡ due_parcels s e
  pub shown : IsToldShown s e

none-parcels : (conference : ℕ) (ms : List Member) → parcels_to_all conference None [] [] ms ≡ []
none-parcels conference [] = refl
none-parcels conference (m ∷ ms) = by m.is_live (none-parcels conference ms)
  where
    by : (b : Bool) → parcels_to_all conference None [] [] ms ≡ [] → cond b (parcels_to conference None [] [] m) [] ++ parcels_to_all conference None [] [] ms ≡ []
    by true rest = rest
    by false rest = rest

none-due : (ms : List Member) (told : ℕ → List Outgoing) → ((n : ℕ) → told n ≡ []) → flat_map (λ m. map (parcel m.n) (told m.n)) ms ≡ []
none-due [] told none = refl
none-due (m ∷ ms) told none =
    ap (λ (os : List Outgoing). map (parcel m.n) os ++ flat_map (λ m. map (parcel m.n) (told m.n)) ms) (none m.n) ∙ none-due ms told none

-- a close calls for none
due_parcels-close : (s : Conference) → due_parcels s Close ≡ []
unfolding due_parcels
due_parcels-close s = none-due (settled s Close).members (due s Close) (due_of-close s)

-- what gives no course leaves each request as it is shown
pub quiet-handed : (S T : State) (sender : Option Sender) (d : Decision) → is_ascending S.requests.ongoing ≡ true → IsQuiet S d.change T →
    (e : Event) → ComesTo (conference_of S) e sender d → infos_changed (conference_of S) e ≡ []
quiet-handed S T sender d ascending q =
    telling-or-close (λ e. ComesTo (conference_of S) e sender d → infos_changed (conference_of S) e ≡ []) tells closes
  where
    s : Conference
    s = conference_of S

    tells : (e : Event) → is_telling e ≡ true → ComesTo s e sender d → infos_changed s e ≡ []
    tells e telling h =
        let c : Change = change_by s d.change in
        let same : change s e ≡ c = change-comes s e sender d h in
        let k : IsKept s c (conference_of T) = q.kept (unclosing-comes s e sender d h telling) in
        none-handed s e (requests-kept s e (still-kept s e c (conference_of T) same k) ascending)

    closes : ComesTo s Close sender d → infos_changed s Close ≡ []
    closes h = handed-close s

-- who says a message that gives no course is handed what it calls for
pub quiet-said : (S T : State) (sender : Option Sender) (d : Decision) (o : Option Replied) → is_ascending S.requests.ongoing ≡ true → IsQuiet S d.change T →
    o ≡ option_map (replied_by (conference_of T) [] d.reply) sender → (e : Event) → ComesTo (conference_of S) e sender d → said_of o ≡ said_reply (conference_of S) e
quiet-said S T sender d o ascending q is =
    telling-or-close (λ e. ComesTo (conference_of S) e sender d → said_of o ≡ said_reply (conference_of S) e) tells closes
  where
    s : Conference
    s = conference_of S

    tells : (e : Event) → is_telling e ≡ true → ComesTo s e sender d → said_of o ≡ said_reply s e
    tells e telling h =
        let c : Change = change_by s d.change in
        let same : change s e ≡ c = change-comes s e sender d h in
        let k : IsKept s c (conference_of T) = q.kept (unclosing-comes s e sender d h telling) in
        let next : conference_of T ≡ settled s e = next-kept s e c (conference_of T) same k in
        let entries = shown-kept s e (still-kept s e c (conference_of T) same k) in
        said-comes s e sender d [] o h (sym (ap ended_of entries ∙ ended_of-entries s.ongoing))
        (ap (λ (es : List Entry). is_rising (numbers_in es)) entries ∙ ap is_rising (numbers_in-entries s.ongoing) ∙ rising-numbers s.ongoing ∙ ascending)
        (is ∙ ap (λ (x : Conference). option_map (replied_by x [] d.reply) sender) next)

    closes : ComesTo s Close sender d → said_of o ≡ said_reply s Close
    closes h = ap said_of (is ∙ ap (option_map (replied_by (conference_of T) [] d.reply)) h.0)

-- what gives no course is told its sender alone
pub quiet-called : (S T : State) (sender : Option Sender) (d : Decision) (o : Option Replied) → is_ascending S.requests.ongoing ≡ true → is_numbered_from 1 S.members ≡ true →
    IsQuiet S d.change T → o ≡ option_map (replied_by (conference_of T) [] d.reply) sender → IsReplyShown o →
    (e : Event) → ComesTo (conference_of S) e sender d → IsCalledFor (conference_of S) e (conference_of T) (parcels_to_all T.config.conference o [] [] T.members)
quiet-called S T sender d o ascending numbered q is shown =
    telling-or-close (λ e. ComesTo (conference_of S) e sender d → IsCalledFor (conference_of S) e (conference_of T) (parcels_to_all T.config.conference o [] [] T.members)) tells closes
  where
    s : Conference
    s = conference_of S

    tells : (e : Event) → is_telling e ≡ true → ComesTo s e sender d → IsCalledFor s e (conference_of T) (parcels_to_all T.config.conference o [] [] T.members)
    tells e telling h =
        let c : Change = change_by s d.change in
        let same : change s e ≡ c = change-comes s e sender d h in
        let k : IsKept s c (conference_of T) = q.kept (unclosing-comes s e sender d h telling) in
        let still : IsStill s e = still-kept s e c (conference_of T) same k in
        let next : conference_of T ≡ settled s e = next-kept s e c (conference_of T) same k in
        let entries = shown-kept s e still in
        let answered : (k : ℕ) → answered_to o k ≡ reply_to s e k =
        answered-comes s e sender d [] o h (sym (ap ended_of entries ∙ ended_of-entries s.ongoing))
        (ap (λ (es : List Entry). is_rising (numbers_in es)) entries ∙ ap is_rising (numbers_in-entries s.ongoing) ∙ rising-numbers s.ongoing ∙ ascending)
        (is ∙ ap (λ (x : Conference). option_map (replied_by x [] d.reply) sender) next) in
        let requests = requests-kept s e still ascending in
        let floors = floors-kept s e still in
        let U : List Changed → Type 0 = λ cs. AreUpdatesShown (map update_for cs) in
        let F : List Floor → Type 0 = λ fs. AreFloorsShown (filter (is_watched_by (settled s e).members) (map (floor_update (infos (settled s e))) fs)) in
        record {
          next = next;
          parcels =
              ap (λ (x : Conference). parcels_to_all x.config.conference o [] [] x.members) next
              ∙ ap (λ (id : ℕ). parcels_to_all id o [] [] (settled s e).members) (settled-conference s e)
              ∙ parcels-kept s e o telling (numbered-settled s e numbered) answered requests floors;
          shown = due-shown s e o telling answered shown (subst U (sym requests) (All-nil (λ (u : Update). IsShown u.tell))) (subst F (sym floors) (All-nil (λ (u : FloorUpdate). IsShown u.tell)));
        }

    closes : ComesTo s Close sender d → IsCalledFor s Close (conference_of T) (parcels_to_all T.config.conference o [] [] T.members)
    closes h =
        let none : o ≡ None = is ∙ ap (option_map (replied_by (conference_of T) [] d.reply)) h.0 in
        record {
          next = q.closed (ap (λ (x : Decision). is_closing x.change) h.1);
          parcels = ap (λ (x : Option Replied). parcels_to_all T.config.conference x [] [] T.members) none ∙ none-parcels T.config.conference T.members ∙ sym (due_parcels-close s);
          shown = close-shown s;
        }
