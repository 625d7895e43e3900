use Rattle.std.proofs.Common.{◌≡◌, ap, subst, sym, ◌∙◌}
use Rattle.floor_machine.specs.Conference.{Conference}
use Rattle.floor_machine.specs.Machine.{Machine}
use Rattle.floor_machine.specs.Reply.{said_reply}
use Rattle.floor_machine.specs.steps.Deciding.{ComesTo}
use Rattle.floor_machine.specs.steps.Frame.{IsServed}
use Rattle.floor_machine.specs.steps.Serving.{conference_of}
use Rattle.floor_machine.proofs.Tried.{tried-served}
use Rattle.floor_machine.proofs.machine.Machine.take_answered.Goals as goal

pub returns-in-Ok-clause-tried : goal.returns-in-Ok-clause-tried
returns-in-Ok-clause-tried c = λ e comes framed free.
    let t : Conference = conference_of c.serve.new.self in
    let is : conference_of c.self.inside.state ≡ c.args.self.now.conference = ap (λ (x : Machine). x.conference) c.self.view_is in
    let C : Conference → Type 0 = λ x. ComesTo x e c.args.sender c.args.decision in
    let S : Conference → Type 0 = λ x. IsServed x e t c.args.out.now.items c.serve.new.out.items c.serve.new.changed.items in
    tried-served c.args.self.now e t c.args.out.now.items c.serve.new.out.items c.serve.new.changed.items c.what_is_shown_fits.ensures framed free (subst S is (c.in-Ok.ensures.served e (subst C (sym is) comes)))

pub returns-in-Ok-clause-said : goal.returns-in-Ok-clause-said
returns-in-Ok-clause-said c = λ e comes.
    let is : conference_of c.self.inside.state ≡ c.args.self.now.conference = ap (λ (x : Machine). x.conference) c.self.view_is in
    let C : Conference → Type 0 = λ x. ComesTo x e c.args.sender c.args.decision in
    c.in-Ok.ensures.said e (subst C (sym is) comes) ∙ ap (λ (x : Conference). said_reply x e) is
