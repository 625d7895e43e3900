use Rattle.std.proofs.Common.{◌≡◌, subst}
use Rattle.std.specs.Prelude.{MatchOption, Option}
use Rattle.floor_meetings.specs.Calls.{Leaves}
use Rattle.floor_meetings.specs.declared.members.Member.{Member}
use Rattle.floor_meetings.proofs.meetings.Meetings.leave.Goals as goal

pub returns-clause-took : goal.returns-clause-took
returns-clause-took c =
    let old = c.args.self.now.hub in
    let new = c.leave.new.hub in
    subst (λ (o : Option Member). MatchOption o (new ≡ old) (λ m. Leaves m.number old new)) c.in-Some.ensures.value c.leave.ensures.took
