use Rattle.std.proofs.Common.{◌≡◌, [], length, min, take, subst}
use Rattle.std.specs.Prelude.{MatchOption, Option}
use Rattle.std.specs.Option.{option_map_or}
use Rattle.floor_loop.specs.Loop.{rest_at}
use Rattle.floor_meetings.specs.Calls.{Takes}
use Rattle.floor_meetings.specs.declared.members.Member.{Member}
use Rattle.floor_meetings.proofs.meetings.Meetings.took.Goals as goal

pub returns-in-Some-clause-took : goal.returns-in-Some-clause-took
returns-in-Some-clause-took c =
    let old = c.args.self.now.hub in
    let new = c.take.new.hub in
    subst (λ (o : Option Member). MatchOption o (new ≡ old) (λ m. Takes m.number (min c.args.count (length (option_map_or (λ x. take 65536 (rest_at old x.number)) o []))) old new)) c.in-Some.ensures.value c.take.ensures.took
