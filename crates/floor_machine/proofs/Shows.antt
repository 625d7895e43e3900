-- What is shown of ongoing requests, and of those that ended.
use Rattle.std.proofs.Common.{◌≡◌, ℕ, Bool, true, false, cond, List, [], ◌∷◌, map, refl, sym, ap, ◌∙◌}
use Rattle.std.specs.Prelude.{◌==◌, filter}
use Rattle.std.specs.List.{list_any}
use Rattle.floor_config.specs.Configuration.{Configuration}
use Rattle.floor_queue.specs.declared.request.Request.{Request}
use Rattle.floor_queue.specs.declared.requested_floor.RequestedFloor.{RequestedFloor}
use Rattle.floor_queue.specs.Order.{names}
use Rattle.floor_message.specs.declared.information.Info.{Info}
use Rattle.floor_message.specs.Status.{status_number}
use Rattle.floor_machine.specs.declared.course.Ended.{Ended}
use Rattle.floor_machine.specs.declared.information.shown.Shown.{Shown}
use Rattle.floor_machine.specs.Shown.{Entry, entry_of, info, info_of, overall_status, floor_shown}
use Rattle.floor_machine.specs.Reply.{infos_on}
use Rattle.floor_machine.specs.steps.Telling.{ended_floor_shown, entry_of_ended, info_with, position_shown, shown_of}

map-map : {A B C : Type 0} (f : B → C) (g : A → B) (xs : List A) → map f (map g xs) ≡ map (λ x. f (g x)) xs
map-map f g [] = refl
map-map {C = C} f g (x ∷ xs) = ap (λ (ys : List C). f (g x) ∷ ys) (map-map f g xs)

-- one list of floors as shown makes both the greatest position and the floors
pub info_with-shown : (config : Configuration) (ongoing : List Request) (e : Entry) →
    info_with config e.request (status_number (overall_status e)) (map (floor_shown config.floors ongoing e) e.request.floors) ≡ info_of config ongoing e
unfolding info_of
info_with-shown config ongoing e =
    rw (map-map position_shown (floor_shown config.floors ongoing e) e.request.floors) refl

pub info_with-ongoing : (config : Configuration) (ongoing : List Request) (r : Request) →
    info_with config r (status_number (overall_status (entry_of r))) (map (floor_shown config.floors ongoing (entry_of r)) r.floors) ≡ info config ongoing r
info_with-ongoing config ongoing r = info_with-shown config ongoing (entry_of r)

pub info_with-ended : (config : Configuration) (ongoing : List Request) (d : Ended) →
    info_with config d.request (status_number d.ending) (map (ended_floor_shown (status_number d.ending)) d.request.floors) ≡ info_of config ongoing (entry_of_ended d)
info_with-ended config ongoing d = info_with-shown config ongoing (entry_of_ended d)

-- what is shown of a request that ended doesn't depend on the ongoing ones
pub shown_of-ended : (config : Configuration) (ongoing : List Request) (d : Ended) → shown_of config [] (entry_of_ended d) ≡ shown_of config ongoing (entry_of_ended d)
shown_of-ended config ongoing d =
    let made : Info → Shown = λ i. record { number = d.request.number; requester = d.request.requester; beneficiary = d.request.beneficiary; info = i } in
    ap made (sym (info_with-ended config [] d) ∙ info_with-ended config ongoing d)

-- an info names the floors that the request names
floors-info : (config : Configuration) (ongoing : List Request) (e : Entry) → (info_of config ongoing e).floors ≡ map (floor_shown config.floors ongoing e) e.request.floors
unfolding info_of
floors-info config ongoing e = refl

any-shown : (config : Configuration) (ongoing : List Request) (e : Entry) (floor : ℕ) (fs : List RequestedFloor) →
    list_any (λ f. f.0 == floor) (map (floor_shown config.floors ongoing e) fs) ≡ list_any (λ f. f.floor == floor) fs
any-shown config ongoing e floor [] = refl
any-shown config ongoing e floor (f ∷ fs) = rw (any-shown config ongoing e floor fs) refl

pub names-info : (config : Configuration) (ongoing : List Request) (e : Entry) (floor : ℕ) →
    list_any (λ f. f.0 == floor) (info_of config ongoing e).floors ≡ names e.request floor
names-info config ongoing e floor = rw (floors-info config ongoing e) (any-shown config ongoing e floor e.request.floors)

pub infos_on-infos : (config : Configuration) (ongoing : List Request) (floor : ℕ) (rs : List Request) →
    infos_on floor (map (info config ongoing) rs) ≡ map (info config ongoing) (filter (λ r. names r floor) rs)
infos_on-infos config ongoing floor [] = refl
infos_on-infos config ongoing floor (r ∷ rs) =
    rw (names-info config ongoing (entry_of r) floor) (by (names r floor) (infos_on-infos config ongoing floor rs))
  where
    by : (b : Bool) → infos_on floor (map (info config ongoing) rs) ≡ map (info config ongoing) (filter (λ r. names r floor) rs) →
        cond b (info config ongoing r ∷ infos_on floor (map (info config ongoing) rs)) (infos_on floor (map (info config ongoing) rs))
        ≡ map (info config ongoing) (cond b (r ∷ filter (λ r. names r floor) rs) (filter (λ r. names r floor) rs))
    by true e = ap (λ (is : List Info). info config ongoing r ∷ is) e
    by false e = e
