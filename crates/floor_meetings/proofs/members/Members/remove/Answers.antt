use Rattle.std.proofs.Common.{sym, subst}
use Rattle.floor_meetings.proofs.Pairing.{never-other}
use Rattle.floor_meetings.specs.Members.{IsPaired}
use Rattle.floor_meetings.proofs.members.Members.remove.Goals as goal

pub returns-in-Some-clause-gone : goal.returns-in-Some-clause-gone
returns-in-Some-clause-gone c = c.leave.ensures.left.here c.args.slot ((subst IsPaired c.self.view_is c.self.invariant).named c.args.slot c.in-Some.member (sym c.in-Some.ensures.value))

pub returns-in-Some-clause-others : goal.returns-in-Some-clause-others
returns-in-Some-clause-others c = λ k ne. c.leave.ensures.left.others k (never-other c.args.self.now c.in-Some.member.number c.args.slot k ((subst IsPaired c.self.view_is c.self.invariant).named c.args.slot c.in-Some.member (sym c.in-Some.ensures.value)) ne)
