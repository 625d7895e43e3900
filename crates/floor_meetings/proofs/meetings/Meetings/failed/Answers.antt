use Rattle.std.proofs.Common.{◌≡◌, subst}
use Rattle.std.specs.Prelude.{MatchOption, Option}
use Rattle.floor_meetings.specs.Calls.{Fails}
use Rattle.floor_meetings.specs.declared.members.Member.{Member}
use Rattle.floor_meetings.proofs.meetings.Meetings.failed.Goals as goal

pub returns-in-Some-clause-took : goal.returns-in-Some-clause-took
returns-in-Some-clause-took c =
    let old = c.args.self.now.hub in
    let new = c.fail.new.hub in
    subst (λ (o : Option Member). MatchOption o (new ≡ old) (λ m. Fails m.number old new)) c.in-Some.ensures.value c.fail.ensures.took
