use Rattle.std.proofs.Common.{◌≡◌, ◌∙◌, ap, subst, ℕ, List, [], Option, map}
use Rattle.std.specs.Prelude.{IfOk}
use Rattle.floor_message.specs.declared.information.Info.{Info}
use Rattle.floor_message.specs.Status.{status_number}
use Rattle.floor_machine.specs.steps.Telling.{entry_of_ended, info_with, ended_floor_shown}
use Rattle.floor_machine.proofs.Fitting.{info_given}
use Rattle.floor_machine.proofs.Shows.{info_with-ended}
use Rattle.floor_machine.proofs.information.showing.ended_info.Goals as goal

pub returns-clause-value : goal.returns-clause-value
returns-clause-value c =
    let d = c.args.ended.now in
    let shown : c.in_ok-floors.floors.items ≡ map (ended_floor_shown (status_number d.ending)) d.request.floors =
    c.in_ok-floors.ensures ∙ ap (λ (s : ℕ). map (ended_floor_shown s) d.request.floors) c.number-status.ensures in
    let P : Info → Type 0 = λ i. IfOk c.info_with.result (λ (x : Info). x ≡ i) in
    subst P
    (ap (λ (s : ℕ). info_with c.args.config.now d.request s c.in_ok-floors.floors.items) c.number-status.ensures
    ∙ ap (λ (fs : List (ℕ × Option (ℕ × ℕ))). info_with c.args.config.now d.request (status_number d.ending) fs) shown
    ∙ info_with-ended c.args.config.now [] d)
    c.info_with.ensures.value

pub returns-clause-shown : goal.returns-clause-shown
returns-clause-shown c =
    info_given c.info_with.result c.args.config.now [] (entry_of_ended c.args.ended.now) (returns-clause-value c) c.info_with.ensures.kept c.info_with.ensures.numbers c.requires
