use Rattle.std.proofs.Common.{true, ◌∙◌, refl, sym}
use Rattle.floor_sockets.specs.Runs.{Fail, Readable, Took}
use Rattle.floor_connections.proofs.Steps.{steps_by, steps_more}
use Rattle.floor_turn.proofs.Handing.{never}
use Rattle.floor_turn.proofs.writing.fail_to_write.Goals as goal

pub returns-then-is_over-clause-took : goal.returns-then-is_over-clause-took
returns-then-is_over-clause-took c = record {
  over = λ e. c.fail.ensures.took;
  read = λ e. never _ (sym e ∙ sym c.is_over.ensures.value ∙ c.if-is_over.true);
}

pub returns-clause-took : goal.returns-clause-took
returns-clause-took c = record {
  over = λ e. never _ (sym c.if-is_over.false ∙ c.is_over.ensures.value ∙ e);
  read = λ e. (c.took.new.self, c.took.ensures.took, c.readable.ensures.took);
}

pub returns-then-is_over-clause-steps : goal.returns-then-is_over-clause-steps
returns-then-is_over-clause-steps c = steps_by (Fail c.args.socket) c.args.connections.now.sockets c.fail.new.self (λ slot. refl) c.fail.ensures.took

pub returns-clause-steps : goal.returns-clause-steps
returns-clause-steps c = steps_more (Readable c.args.socket true) c.args.connections.now.sockets c.took.new.self c.readable.new.self (λ slot. refl)
    (steps_by (Took c.args.socket 0 0) c.args.connections.now.sockets c.took.new.self (λ slot. refl) c.took.ensures.took) c.readable.ensures.took
