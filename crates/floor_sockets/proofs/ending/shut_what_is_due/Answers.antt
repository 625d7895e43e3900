use Rattle.std.proofs.Common.{Bool, subst}
use Rattle.floor_sockets.specs.steps.Ending.{IsAnswered}
use Rattle.floor_sockets.proofs.Stopping.{fewer_due, still_ending, was_shut}
use Rattle.floor_sockets.proofs.ending.shut_what_is_due.Goals as goal

pub loop-deed-preserved : goal.loop-deed-preserved
loop-deed-preserved c =
    still_ending c.who_is_ended_is_shut.ensures c.args.slot c.loop-deed.sockets c.next.new.self c.answer.new.sockets c.in-Some.deed c.loop-deed.invariant c.in-Some.ensures.asked
    (subst (λ (b : Bool). IsAnswered c.in-Some.deed c.args.slot c.next.new.self b c.answer.new.sockets) c.if-branch.false c.in_ok-answer.ensures.answered)

pub loop-deed-smaller : goal.loop-deed-smaller
loop-deed-smaller c =
    fewer_due c.who_is_ended_is_shut.ensures c.args.slot c.loop-deed.sockets c.next.new.self c.answer.new.sockets c.in-Some.deed c.in_ok-answer.field-0 c.loop-deed.invariant c.in-Some.ensures.asked c.in_ok-answer.ensures.answered

pub returns-then-branch : goal.returns-then-branch
returns-then-branch c = record {
  shut =
      was_shut c.who_is_ended_is_shut.ensures c.args.slot c.loop-deed.sockets c.next.new.self c.answer.new.sockets c.in-Some.deed c.loop-deed.invariant c.in-Some.ensures.asked
      (subst (λ (b : Bool). IsAnswered c.in-Some.deed c.args.slot c.next.new.self b c.answer.new.sockets) c.if-branch.true c.in_ok-answer.ensures.answered);
}
