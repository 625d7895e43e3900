use Rattle.std.proofs.Common.{◌≡◌, ◌∙◌, ap, subst, ℕ, List, Option, map}
use Rattle.std.specs.Prelude.{IfOk}
use Rattle.floor_config.specs.declared.floors.Floor.{Floor}
use Rattle.floor_message.specs.declared.information.Info.{Info}
use Rattle.floor_message.specs.Status.{status_number}
use Rattle.floor_machine.specs.Shown.{overall_status, entry_of, floor_shown}
use Rattle.floor_machine.specs.steps.Telling.{info_with}
use Rattle.floor_machine.proofs.Fitting.{info_given, ongoing_addable}
use Rattle.floor_machine.proofs.Shows.{info_with-ongoing}
use Rattle.floor_machine.proofs.information.settled.OngoingRequest.info.Goals as goal

pub returns-clause-value : goal.returns-clause-value
returns-clause-value c =
    let r = c.args.self.now.request.now in
    let ongoing = c.args.self.now.settled.requests.now.ongoing in
    let status : c.number.result ≡ status_number (overall_status (entry_of r)) = c.number.ensures ∙ ap status_number c.ongoing_status.ensures in
    let shown : c.show_floors.new.shown.items ≡ map (floor_shown c.args.self.now.settled.config.now.floors ongoing (entry_of r)) r.floors =
    c.in_ok-show_floors.ensures ∙ ap (λ (fs : List Floor). map (floor_shown fs ongoing (entry_of r)) r.floors) c.args.self.now.settled.floors in
    let P : Info → Type 0 = λ i. IfOk c.info_with.result (λ (x : Info). x ≡ i) in
    subst P
    (ap (λ (s : ℕ). info_with c.args.self.now.settled.config.now r s c.show_floors.new.shown.items) status
    ∙ ap (λ (fs : List (ℕ × Option (ℕ × ℕ))). info_with c.args.self.now.settled.config.now r (status_number (overall_status (entry_of r))) fs) shown
    ∙ info_with-ongoing c.args.self.now.settled.config.now ongoing r)
    c.info_with.ensures.value

pub returns-clause-shown : goal.returns-clause-shown
returns-clause-shown c =
    let r = c.args.self.now.request.now in
    info_given c.info_with.result c.args.self.now.settled.config.now c.args.self.now.settled.requests.now.ongoing (entry_of r) (returns-clause-value c) c.info_with.ensures.kept c.info_with.ensures.numbers
    (ongoing_addable c.args.self.now.settled.requests.now c.args.self.now.settled.config.now.floors r.number r c.ongoing-ongoing.ensures.kept c.args.self.now.settled.floors c.args.self.now.found)
