-- What is told once the requests are settled and what is shown of them is renewed.
use Rattle.std.proofs.Common.{◌≡◌, ℕ, List, map, ap, subst, ◌∙◌}
use Rattle.std.specs.Prelude.{Option, filter}
use Rattle.std.proofs.lemmas.List.Elements.{filter_agree}
use Rattle.floor_config.specs.declared.floors.Floor.{Floor}
use Rattle.floor_queue.specs.Order.{settle}
use Rattle.floor_queue.specs.Queue.{after_settle}
use Rattle.floor_message.specs.declared.information.Info.{Info}
use Rattle.floor_machine.specs.declared.course.Course.{Course}
use Rattle.floor_machine.specs.declared.tell.renewing.Changes.{Changes}
use Rattle.floor_machine.specs.steps.Outcomes.{FloorUpdate}
use Rattle.floor_machine.specs.declared.replied.Replied.{Replied}
use Rattle.floor_machine.specs.declared.tell.changed.Update.{Update}
use Rattle.floor_machine.specs.declared.conference.State.{State}
use Rattle.floor_machine.specs.Conference.{Conference}
use Rattle.floor_machine.specs.steps.Fitting.{AreFloorsShown}
use Rattle.floor_machine.specs.steps.Serving.{conference_of, with_requests}
use Rattle.floor_machine.specs.steps.Telling.{AreChanged, AreInfos, floor_update, floor_updates, floors_changed, infos_of, is_floor_changed, is_one_of, is_watched_by, parcels_to_all, updates}

-- What settling made of t: u, of which all is shown, and what changed.
pub record IsSettledTo (t u : State) (course : Course) (changes : Changes) : Type 0 where
  pub next : conference_of u ≡ with_requests (conference_of t) (after_settle t.requests)
  pub shows : AreInfos u.config u.requests.ongoing u.shown.items
  pub updates : changes.updates ≡ updates t.config (settle t.requests.floors t.requests.ongoing) course.ended.items course.before.items course.numbers.items
  pub floors : AreChanged course.before.items (infos_of t.config (settle t.requests.floors t.requests.ongoing)) changes.floors.items

-- the statuses of the floors among the changed ones are those of the floors whose requests are shown otherwise
changed-floors : (before now : List Info) (changed : List ℕ) (floors : List Floor) → AreChanged before now changed → floors_changed now changed floors ≡ floor_updates before now floors
changed-floors before now changed floors h = ap (map (floor_update now)) (filter_agree (is_one_of changed) (is_floor_changed before now) (λ f. h f.id) floors)

pub floors-settled : (t u : State) (course : Course) (changes : Changes) → IsSettledTo t u course changes →
    floors_changed u.shown.items changes.floors.items u.config.floors ≡ floor_updates course.before.items (infos_of t.config (after_settle t.requests).ongoing) t.config.floors
floors-settled t u course changes h =
    let now : List Info = infos_of t.config (after_settle t.requests).ongoing in
    ap (λ (is : List Info). floors_changed is changes.floors.items u.config.floors) (h.shows.infos ∙ ap (λ (x : Conference). infos_of x.config x.ongoing) h.next)
    ∙ ap (λ (x : Conference). floors_changed now changes.floors.items x.config.floors) h.next
    ∙ changed-floors course.before.items now changes.floors.items t.config.floors h.floors

-- the parcels are those of the changes
pub parcels-settled : (t u : State) (course : Course) (changes : Changes) (reply : Option Replied) → IsSettledTo t u course changes →
    parcels_to_all u.config.conference reply changes.updates (floors_changed u.shown.items changes.floors.items u.config.floors) u.members
    ≡ parcels_to_all t.config.conference reply (updates t.config (after_settle t.requests).ongoing course.ended.items course.before.items course.numbers.items)
    (floor_updates course.before.items (infos_of t.config (after_settle t.requests).ongoing) t.config.floors) t.members
parcels-settled t u course changes reply h =
    let fs : List FloorUpdate = floor_updates course.before.items (infos_of t.config (after_settle t.requests).ongoing) t.config.floors in
    ap (λ (gs : List FloorUpdate). parcels_to_all u.config.conference reply changes.updates gs u.members) (floors-settled t u course changes h)
    ∙ ap (λ (us : List Update). parcels_to_all u.config.conference reply us fs u.members) h.updates
    ∙ ap (λ (x : Conference). parcels_to_all x.config.conference reply (updates t.config (after_settle t.requests).ongoing course.ended.items course.before.items course.numbers.items) fs x.members) h.next

-- the floors that are told of show no more than a conference has
pub floors-shown : (t u : State) (course : Course) (changes : Changes) → IsSettledTo t u course changes →
    AreFloorsShown (filter (is_watched_by u.members) (floors_changed u.shown.items changes.floors.items u.config.floors)) →
    AreFloorsShown (filter (is_watched_by t.members) (floor_updates course.before.items (infos_of t.config (after_settle t.requests).ongoing) t.config.floors))
floors-shown t u course changes h shown =
    let fs : List FloorUpdate = floor_updates course.before.items (infos_of t.config (after_settle t.requests).ongoing) t.config.floors in
    subst AreFloorsShown
    (ap (filter (is_watched_by u.members)) (floors-settled t u course changes h) ∙ ap (λ (x : Conference). filter (is_watched_by x.members) fs) h.next)
    shown
