use Rattle.std.proofs.Common.{refl}
use Rattle.std.proofs.Common.{◌≡◌, true, ap, sym, subst}
use Rattle.floor_sockets.specs.Sockets.{Sockets, life_at}
use Rattle.floor_connections.specs.Asked.{is_ending}
use Rattle.floor_connections.specs.Steps.{Steps}
use Rattle.floor_connections.proofs.Ending.{ends_by}
use Rattle.floor_connections.proofs.connections.Connections.lend.Goals.{else-not-has_bytes-via-then-not-has_bytes+else-set_leaving, else-not-has_bytes-via-else-not-has_bytes}
use Rattle.floor_sockets.specs.Runs.{End, Fail, Lend}
use Rattle.floor_connections.proofs.Steps.{steps_by, steps_more}
use Rattle.floor_connections.proofs.connections.Connections.lend.Goals as goal

pub returns-then-not-is_over-clause-steps : goal.returns-then-not-is_over-clause-steps
returns-then-not-is_over-clause-steps c = steps_by (Lend c.args.slot c.args.has_bytes) c.args.self.now.sockets c.lend.new.self (λ slot. refl) c.lend.ensures.took

pub returns-then-is_err-clause-steps : goal.returns-then-is_err-clause-steps
returns-then-is_err-clause-steps c = steps_more (Fail c.args.slot) c.args.self.now.sockets c.end.new.self c.fail.new.self (λ slot. refl) (steps_more (End c.args.slot) c.args.self.now.sockets c.lend.new.self c.end.new.self (λ slot. refl) (steps_by (Lend c.args.slot c.args.has_bytes) c.args.self.now.sockets c.lend.new.self (λ slot. refl) c.lend.ensures.took) c.end.ensures.took) c.fail.ensures.took

pub returns-then-is_err-clause-ends : goal.returns-then-is_err-clause-ends
returns-then-is_err-clause-ends c = λ ends. ends_by (life_at c.end.new.self c.args.slot) (life_at c.fail.new.self c.args.slot) c.fail.ensures.took.here

pub returns-else-is_err-clause-steps : goal.returns-else-is_err-clause-steps
returns-else-is_err-clause-steps c = steps_more (End c.args.slot) c.args.self.now.sockets c.lend.new.self c.end.new.self (λ slot. refl) (steps_by (Lend c.args.slot c.args.has_bytes) c.args.self.now.sockets c.lend.new.self (λ slot. refl) c.lend.ensures.took) c.end.ensures.took

pub returns-else-is_err-clause-ends : goal.returns-else-is_err-clause-ends
returns-else-is_err-clause-ends c = λ ends. ends_by (life_at c.lend.new.self c.args.slot) (life_at c.end.new.self c.args.slot) c.end.ensures.took.here

pub returns-else-not-has_bytes-clause-steps : goal.returns-else-not-has_bytes-clause-steps
returns-else-not-has_bytes-clause-steps c = subst (Steps c.args.self.now.sockets) (elim c.else-not-has_bytes.branch [ else-not-has_bytes-via-then-not-has_bytes+else-set_leaving w ↦ ap (λ x. x.sockets) (sym w.self-is) | else-not-has_bytes-via-else-not-has_bytes w ↦ ap (λ x. x.sockets) (sym w.self-is) ])
    (steps_more (End c.args.slot) c.args.self.now.sockets c.lend.new.self c.end.new.self (λ slot. refl) (steps_by (Lend c.args.slot c.args.has_bytes) c.args.self.now.sockets c.lend.new.self (λ slot. refl) c.lend.ensures.took) c.end.ensures.took)

pub returns-else-not-has_bytes-clause-ends : goal.returns-else-not-has_bytes-clause-ends
returns-else-not-has_bytes-clause-ends c = λ ends. subst (λ (s : Sockets). is_ending (life_at s c.args.slot) ≡ true) (elim c.else-not-has_bytes.branch [ else-not-has_bytes-via-then-not-has_bytes+else-set_leaving w ↦ ap (λ x. x.sockets) (sym w.self-is) | else-not-has_bytes-via-else-not-has_bytes w ↦ ap (λ x. x.sockets) (sym w.self-is) ])
    (ends_by (life_at c.lend.new.self c.args.slot) (life_at c.end.new.self c.args.slot) c.end.ensures.took.here)
