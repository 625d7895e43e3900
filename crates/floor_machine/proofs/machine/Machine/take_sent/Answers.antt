use Rattle.std.proofs.Common.{◌≡◌, Err, subst, sym, ap, refl}
use Rattle.floor_machine.specs.declared.decision.Decision.{Decision}
use Rattle.floor_machine.specs.declared.decision.Sender.{Sender}
use Rattle.floor_machine.specs.declared.machine.Refusal.{Refusal}
use Rattle.floor_machine.specs.Conference.{Conference, binding_for}
use Rattle.floor_machine.specs.Machine.{Machine}
use Rattle.floor_machine.specs.steps.Deciding.{IsDecided, heard}
use Rattle.floor_machine.specs.steps.Frame.{IsTried}
use Rattle.floor_machine.specs.steps.Serving.{conference_of}
use Rattle.floor_machine.proofs.Tried.{tried-broken}
use Rattle.floor_machine.proofs.machine.Machine.take_sent.Goals as goal

pub returns-in-Ok-clause-tried : goal.returns-in-Ok-clause-tried
returns-in-Ok-clause-tried c = λ e of framed free.
    let s = conference_of c.self.inside.state in
    let w : Sender = c.args.sender in
    let bytes = c.args.frame.now in
    let j : Decision = c.in-Ok.decision in
    let D : Conference → Type 0 = λ x. IsDecided x w.n w.user bytes j in
    let is : s ≡ c.args.self.now.conference = ap (λ (x : Machine). x.conference) c.self.view_is in
    let decided : D s = c.in-Ok.ensures.value (heard w.n bytes (binding_for s w.user)) refl in
    c.take_answered.ensures.tried e (of j (subst D is decided)) framed free

pub returns-in-Ok-clause-said : goal.returns-in-Ok-clause-said
returns-in-Ok-clause-said c = λ e of.
    let s = conference_of c.self.inside.state in
    let w : Sender = c.args.sender in
    let bytes = c.args.frame.now in
    let j : Decision = c.in-Ok.decision in
    let D : Conference → Type 0 = λ x. IsDecided x w.n w.user bytes j in
    let is : s ≡ c.args.self.now.conference = ap (λ (x : Machine). x.conference) c.self.view_is in
    let decided : D s = c.in-Ok.ensures.value (heard w.n bytes (binding_for s w.user)) refl in
    c.take_answered.ensures.said e (of j (subst D is decided))

pub returns-in-Err-clause-tried : goal.returns-in-Err-clause-tried
returns-in-Err-clause-tried c = λ e of framed free.
    let m = c.args.self.now in
    let out = c.args.out.now.items in
    let T : Refusal → Type 0 = λ why. IsTried m e c.break_off.new.self out out c.args.changed.now.items (Err why) in
    subst T (sym c.break_off.ensures.value) (tried-broken m e c.break_off.new.self out out c.args.changed.now.items free c.break_off.ensures.broken refl c.requires.empty)
