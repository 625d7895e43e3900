use Rattle.std.proofs.Common.{◌≡◌, subst}
use Rattle.std.specs.Prelude.{MatchOption, Option}
use Rattle.floor_meetings.specs.Calls.{Comes}
use Rattle.floor_meetings.specs.declared.members.Member.{Member}
use Rattle.floor_meetings.proofs.meetings.Meetings.came.Goals as goal

pub returns-in-Some-clause-took : goal.returns-in-Some-clause-took
returns-in-Some-clause-took c =
    let old = c.args.self.now.hub in
    let new = c.come.new.hub in
    subst (λ (o : Option Member). MatchOption o (new ≡ old) (λ m. Comes m.number c.args.bytes.now old new c.come.result)) c.in-Some.ensures.value c.come.ensures.took
