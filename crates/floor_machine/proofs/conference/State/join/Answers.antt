use Rattle.std.proofs.Common.{◌≡◌, ℕ, List, [], ◌∷◌, ◌++◌, sym, ap, subst, ◌∙◌}
use Rattle.std.proofs.lemmas.List.Elements.{All-nil}
use Rattle.floor_config.specs.declared.floors.Floor.{Floor}
use Rattle.floor_queue.specs.Order.{settle}
use Rattle.floor_message.specs.Shown.{IsShown}
use Rattle.floor_machine.specs.declared.member.Member.{Member}
use Rattle.floor_machine.specs.steps.Fitting.{AreMessagesShown}
use Rattle.floor_machine.specs.Outgoing.{Outgoing}
use Rattle.floor_machine.specs.steps.Serving.{conference_of}
use Rattle.floor_machine.proofs.Asked.{on_ok, on_ok_all}
use Rattle.floor_machine.proofs.Joining.{settled-join}
use Rattle.floor_machine.proofs.Counted.{next-quiet, parcels_of-quiet}
use Rattle.floor_machine.proofs.Handed.{handed-join}
use Rattle.floor_machine.proofs.Quiet.{due_of-join}
use Rattle.floor_machine.specs.Conference.{joining}
use Rattle.floor_machine.specs.declared.event.Event.TheVariants.{Join}
use Rattle.floor_machine.proofs.conference.State.join.Goals as goal

pub returns-clause-next : goal.returns-clause-next
returns-clause-next c rest =
    let s = conference_of c.args.self.now in
    let P : List Floor → Type 0 = λ fs. settle fs s.ongoing ≡ s.ongoing in
    on_ok c.join.result (λ joins. ap (λ (ms : List Member). record s { members = ms }) joins
    ∙ ap (λ (k : ℕ). record s { members = s.members ++ joining k c.args.user ∷ [] }) c.requires
    ∙ settled-join s c.args.user (subst P c.args.self.now.same_floors rest.settled)
    ∙ next-quiet s (Join c.args.user) (due_of-join s c.args.user (subst P c.args.self.now.same_floors rest.settled) c.ongoing-ongoing.ensures.kept.ascending)) c.join.ensures.next

pub returns-clause-told : goal.returns-clause-told
returns-clause-told c rest =
    let s = conference_of c.args.self.now in
    let P : List Floor → Type 0 = λ fs. settle fs s.ongoing ≡ s.ongoing in
    on_ok_all c.join.result (parcels_of-quiet s (Join c.args.user) (due_of-join s c.args.user (subst P c.args.self.now.same_floors rest.settled) c.ongoing-ongoing.ensures.kept.ascending))

pub returns-clause-still : goal.returns-clause-still
returns-clause-still c rest =
    let s = conference_of c.args.self.now in
    let P : List Floor → Type 0 = λ fs. settle fs s.ongoing ≡ s.ongoing in
    handed-join s c.args.user (subst P c.args.self.now.same_floors rest.settled) c.ongoing-ongoing.ensures.kept.ascending

pub returns-clause-shown : goal.returns-clause-shown
returns-clause-shown c rest =
    let s = conference_of c.args.self.now in
    let P : List Floor → Type 0 = λ fs. settle fs s.ongoing ≡ s.ongoing in
    on_ok_all c.join.result (λ n. subst AreMessagesShown (sym (due_of-join s c.args.user (subst P c.args.self.now.same_floors rest.settled) c.ongoing-ongoing.ensures.kept.ascending n))
    (All-nil (λ (message : Outgoing). IsShown message.tell)))
