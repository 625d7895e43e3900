use Rattle.std.proofs.Common.{arith}
use denote.Param.Members.{Called}
use Rattle.floor_listen.proofs.GivenBack.{handed_out, turn}
use Rattle.floor_listen.proofs.ports.Ports.give_back.Goals as goal

pub loop-before-preserved : goal.loop-before-preserved
loop-before-preserved g c =
    let turned = turn (λ p x q. Called g.F.FnMut p (x, tt) tt q) c.args.chosen c.args.self.now.listening
    c.loop-before.self-inside.listening.items c.give_back_at.new.listening.items c.in-Some.before c.loop-before.place c.loop-before.close c.give_back_at.new.close
    (omega (arith, c.in-Some.ensures)) c.loop-before.invariant.1 c.loop-before.invariant.2 c.give_back_at.ensures.took in (
      c.give_back_at.ensures.callable,
      omega (arith, c.in-Some.ensures, c.loop-before.invariant.1),
      turned.0,
      λ last more. c.loop-before.invariant.3 last (turned.1 last more),
    )

pub returns-clause-given : goal.returns-clause-given
returns-clause-given g c = (
  c.loop-before.close,
  handed_out (λ p x q. Called g.F.FnMut p (x, tt) tt q) c.args.chosen c.args.self.now.listening c.loop-before.place c.args.close c.loop-before.close
      (omega (arith, c.in_default.ensures)) c.loop-before.invariant.3,
)
