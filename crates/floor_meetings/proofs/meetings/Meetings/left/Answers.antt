use Rattle.std.proofs.Common.{◌≡◌, subst}
use Rattle.std.specs.Prelude.{MatchOption, Option}
use Rattle.floor_meetings.specs.Calls.{Parts}
use Rattle.floor_meetings.specs.declared.members.Member.{Member}
use Rattle.floor_meetings.proofs.meetings.Meetings.left.Goals as goal

pub returns-in-Some-clause-took : goal.returns-in-Some-clause-took
returns-in-Some-clause-took c =
    let old = c.args.self.now.hub in
    let new = c.part.new.hub in
    subst (λ (o : Option Member). MatchOption o (new ≡ old) (λ m. Parts m.number c.args.now old new c.part.result)) c.in-Some.ensures.value c.part.ensures.took
