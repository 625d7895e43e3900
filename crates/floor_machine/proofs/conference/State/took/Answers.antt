use Rattle.std.proofs.Common.{◌≡◌, List, sym, ap, subst, ◌∙◌}
use Rattle.std.proofs.lemmas.List.Elements.{All-nil}
use Rattle.floor_config.specs.declared.floors.Floor.{Floor}
use Rattle.floor_queue.specs.Order.{settle}
use Rattle.floor_message.specs.Shown.{IsShown}
use Rattle.floor_machine.specs.declared.event.Event.TheVariants.{Took}
use Rattle.floor_machine.specs.declared.member.Member.{Member}
use Rattle.floor_machine.specs.Outgoing.{Outgoing}
use Rattle.floor_machine.specs.steps.Fitting.{AreMessagesShown}
use Rattle.floor_machine.specs.steps.Serving.{conference_of}
use Rattle.floor_machine.proofs.Counted.{next-quiet, parcels_of-quiet}
use Rattle.floor_machine.proofs.Handed.{handed-took}
use Rattle.floor_machine.proofs.Quiet.{due_of-took, settled-took}
use Rattle.floor_machine.proofs.conference.State.took.Goals as goal

pub returns-clause-next : goal.returns-clause-next
returns-clause-next c =
    let s = conference_of c.args.self.now in
    let P : List Floor → Type 0 = λ fs. settle fs s.ongoing ≡ s.ongoing in
    let is_settled : settle s.config.floors s.ongoing ≡ s.ongoing = subst P c.args.self.now.same_floors c.requires.rest.settled in
    ap (λ (ms : List Member). record s { members = ms }) c.acknowledge.ensures
    ∙ settled-took s c.args.n c.args.k is_settled
    ∙ next-quiet s (Took c.args.n c.args.k) (due_of-took s c.args.n c.args.k is_settled c.ongoing-ongoing.ensures.kept.ascending)

pub returns-clause-told : goal.returns-clause-told
returns-clause-told c =
    let s = conference_of c.args.self.now in
    let P : List Floor → Type 0 = λ fs. settle fs s.ongoing ≡ s.ongoing in
    let is_settled : settle s.config.floors s.ongoing ≡ s.ongoing = subst P c.args.self.now.same_floors c.requires.rest.settled in
    parcels_of-quiet s (Took c.args.n c.args.k) (due_of-took s c.args.n c.args.k is_settled c.ongoing-ongoing.ensures.kept.ascending)

pub returns-clause-still : goal.returns-clause-still
returns-clause-still c =
    let s = conference_of c.args.self.now in
    let P : List Floor → Type 0 = λ fs. settle fs s.ongoing ≡ s.ongoing in
    handed-took s c.args.n c.args.k (subst P c.args.self.now.same_floors c.requires.rest.settled) c.ongoing-ongoing.ensures.kept.ascending

pub returns-clause-shown : goal.returns-clause-shown
returns-clause-shown c = λ n.
    let s = conference_of c.args.self.now in
    let P : List Floor → Type 0 = λ fs. settle fs s.ongoing ≡ s.ongoing in
    let is_settled : settle s.config.floors s.ongoing ≡ s.ongoing = subst P c.args.self.now.same_floors c.requires.rest.settled in
    subst AreMessagesShown (sym (due_of-took s c.args.n c.args.k is_settled c.ongoing-ongoing.ensures.kept.ascending n))
    (All-nil (λ (message : Outgoing). IsShown message.tell))
