use Rattle.std.proofs.Common.{◌∙◌}
use Rattle.floor_hub.specs.declared.step.Step.TheVariants.{Leave}
use Rattle.floor_loop.specs.Done.{AtMost}
use Rattle.floor_loop.specs.steps.Moved.{loop_of}
use Rattle.floor_loop.proofs.Throwing.{thrown-moves, thrown-spares, thrown-wakes}
use Rattle.floor_loop.proofs.coming.send_off.Goals as goal

pub returns : goal.returns
returns c =
    let number = c.args.number in
    let old = loop_of c.args.hub.now c.args.attended.now in
    let mid = loop_of c.throw_away.new.hub c.throw_away.new.attended in
    let new = loop_of c.leave_from-left.new.hub c.leave_from-left.new.attended in
    let thrown = c.throw_away.ensures.thrown in
    let left = c.leave_from-left.ensures.left in
    record {
      moved = thrown-moves number old mid new thrown left (AtMost 1 (Leave number)) c.leave_from-left.ensures.moved;
      woke = λ l. thrown-wakes number old mid new thrown left l (c.leave_from-left.ensures.woke (thrown.loop l));
      spares = λ l. thrown-spares number old mid new thrown left (c.leave_from-left.ensures.spares (thrown.loop l));
      left = left;
      others = λ k ne. c.leave_from-left.ensures.others k ne ∙ thrown.connections k;
      back = c.leave_from-left.ensures.back;
    }
