use Rattle.std.proofs.Common.{arith, rules}
use Rattle.std.proofs.lemmas.Grind.{common_steps}
use Rattle.floor_machine.proofs.tell.backlog.tell_each.Goals as goal

pub returns-in_err-tell_one-clause-cut : goal.returns-in_err-tell_one-clause-cut
returns-in_err-tell_one-clause-cut c = λ h. c.tell_one.ensures.cut (c.loop-n.invariant.cut h)

pub returns-in_err-tell_one-clause-watching : goal.returns-in_err-tell_one-clause-watching
returns-in_err-tell_one-clause-watching c = λ ns h. c.tell_one.ensures.watching ns (c.loop-n.invariant.watching ns h)

pub loop-n-preserved : goal.loop-n-preserved
loop-n-preserved c =
    record {
      told = first_of (search rules, grind (arith, common_steps));
      members = first_of (search rules, grind (arith, common_steps));
      live = first_of (search rules, grind (arith, common_steps));
      watching = λ ns h. c.tell_one.ensures.watching ns (c.loop-n.invariant.watching ns h);
      cut = λ h. c.tell_one.ensures.cut (c.loop-n.invariant.cut h);
    }
