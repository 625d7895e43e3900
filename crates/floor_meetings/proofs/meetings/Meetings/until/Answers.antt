use Rattle.std.proofs.Common.{◌≡◌, Some, sym, ◌∙◌, subst}
use Rattle.std.proofs.lemmas.Option.{none-some}
use Rattle.floor_hub.specs.Connections.{connection_at}
use Rattle.floor_meetings.specs.declared.members.Member.{Member}
use Rattle.floor_meetings.proofs.Pairing.{one_member}
use Rattle.floor_meetings.proofs.meetings.Meetings.until.Goals as goal

pub returns-in-Some-clause-over : goal.returns-in-Some-clause-over
returns-in-Some-clause-over c = λ m x r at live there over.
    let same = one_member m c.in-Some.member (sym at ∙ sym c.in-Some.ensures.value) in
    c.until.ensures.over x r (subst (λ (y : Member). connection_at c.args.self.now.hub.hub.connections y.number ≡ Some x) same live) there over

pub returns-in-None-clause-over : goal.returns-in-None-clause-over
returns-in-None-clause-over c = λ m x r at live there over. absurd (none-some m (c.in-None.ensures.value ∙ at))
