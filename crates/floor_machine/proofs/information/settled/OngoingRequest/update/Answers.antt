use Rattle.std.proofs.Common.{◌≡◌, ◌∙◌, ℕ, Bool, List, Option, Some, ap, map, subst, sym}
use Rattle.std.specs.Prelude.{◌↔◌, IsTrue, fold, max, not}
use Rattle.floor_config.specs.declared.floors.Floor.{Floor}
use Rattle.floor_message.specs.Status.{status_number}
use Rattle.floor_message.specs.declared.information.Info.{Info}
use Rattle.floor_machine.specs.Shown.{entry_of, floor_shown, overall_status}
use Rattle.floor_machine.specs.steps.Renewing.{shown_if}
use Rattle.floor_machine.specs.steps.Telling.{position_shown}
use Rattle.floor_machine.proofs.InPlace.{now-shown, shown-otherwise, stays-shown}
use Rattle.floor_machine.proofs.SameInfo.{info_own}
use Rattle.floor_machine.proofs.information.settled.OngoingRequest.update.Goals as goal

pub returns-then-has_statuses-clause-now : goal.returns-then-has_statuses-clause-now
returns-then-has_statuses-clause-now c =
    let config = c.args.self.now.settled.config.now in
    let ongoing = c.args.self.now.settled.requests.now.ongoing in
    let r = c.args.self.now.request.now in
    let old : Info = c.args.shown.now in
    let status : c.number-status.result ≡ status_number (overall_status (entry_of r)) = c.number-status.ensures ∙ ap status_number c.ongoing_status.ensures in
    let put : c.deref-2.result.now ≡ c.show_floors.new.shown.items = c.deref-2.ensures.value in
    let shown : c.deref-2.result.now ≡ map (floor_shown config.floors ongoing (entry_of r)) r.floors =
    put ∙ c.in_ok-show_floors.ensures ∙ ap (λ (fs : List Floor). map (floor_shown fs ongoing (entry_of r)) r.floors) c.args.self.now.settled.floors in
    let has = c.has_statuses.ensures.value.0 c.if-has_statuses.true in
    stays-shown old (c.number-status.result, c.greatest_position.result) c.deref-2.result.now
    (sym (ap (λ (x : Info). x.overall) c.as_info.ensures.value) ∙ has.0) (sym (ap (λ (x : Info). x.floors) c.as_info.ensures.value) ∙ has.1)
    ∙ now-shown config ongoing r old c.number-status.result c.greatest_position.result c.deref-2.result.now c.requires status
    (c.greatest_position.ensures ∙ ap (λ (fs : List (ℕ × Option (ℕ × ℕ))). fold max 0 (map position_shown fs)) (c.deref.ensures.value ∙ sym put)) shown

pub returns-then-has_statuses-clause-changed : goal.returns-then-has_statuses-clause-changed
returns-then-has_statuses-clause-changed c = ap (λ (b : Bool). shown_if (not b) c.args.shown.now) (sym (info_own c.args.shown.now))

pub returns-clause-now : goal.returns-clause-now
returns-clause-now c =
    let config = c.args.self.now.settled.config.now in
    let ongoing = c.args.self.now.settled.requests.now.ongoing in
    let r = c.args.self.now.request.now in
    let status : c.number-status.result ≡ status_number (overall_status (entry_of r)) = c.number-status.ensures ∙ ap status_number c.ongoing_status.ensures in
    let put : c.deref-3.result.now ≡ c.show_floors.new.shown.items = c.deref-3.ensures.value in
    let shown : c.deref-3.result.now ≡ map (floor_shown config.floors ongoing (entry_of r)) r.floors =
    put ∙ c.in_ok-show_floors.ensures ∙ ap (λ (fs : List Floor). map (floor_shown fs ongoing (entry_of r)) r.floors) c.args.self.now.settled.floors in
    c.in_ok-set_statuses.ensures.value
    ∙ now-shown config ongoing r c.args.shown.now c.number-status.result c.greatest_position.result c.deref-3.result.now c.requires status
    (c.greatest_position.ensures ∙ ap (λ (fs : List (ℕ × Option (ℕ × ℕ))). fold max 0 (map position_shown fs)) (c.deref.ensures.value ∙ sym put)) shown

pub returns-clause-changed : goal.returns-clause-changed
returns-clause-changed c =
    let old : Info = c.args.shown.now in
    let new : Info = c.set_statuses.new.self in
    let some : Info → Option Info = λ i. Some i in
    ap some c.in_ok-share.ensures.value
    ∙ ap (λ (b : Bool). shown_if b new)
    (sym (shown-otherwise c.has_statuses.result old new (c.number-status.result, c.greatest_position.result) c.deref-2.result.now
    (let A : Info → Type 0 = λ i. IsTrue c.has_statuses.result ↔ ((i.overall ≡ Some (c.number-status.result, c.greatest_position.result)) × (i.floors ≡ c.deref-2.result.now)) in
    subst A c.as_info.ensures.value c.has_statuses.ensures.value)
    c.if-has_statuses.false
    (c.in_ok-set_statuses.ensures.value ∙ ap (λ (fs : List (ℕ × Option (ℕ × ℕ))). record old { overall = Some (c.number-status.result, c.greatest_position.result); floors = fs }) (c.deref-3.ensures.value ∙ sym c.deref-2.ensures.value))))
