use Rattle.std.proofs.Common.{refl}
use Rattle.floor_meetings.specs.Runs.{LeaveAt, Left}
use Rattle.floor_turn.proofs.Moving.{moves_one, moves_same}
use Rattle.floor_turn.proofs.Sparing.{free_one, free_same}
use Rattle.floor_turn.proofs.meeting.part.Goals as goal

pub returns-in_default-clause-moves : goal.returns-in_default-clause-moves
returns-in_default-clause-moves c = moves_same c.args.meetings.now c.args.meetings.now refl

pub returns-in_default-clause-spares : goal.returns-in_default-clause-spares
returns-in_default-clause-spares c = λ cs free. free_same cs c.args.meetings.now c.args.meetings.now refl

pub returns-in-Ok-clause-moves : goal.returns-in-Ok-clause-moves
returns-in-Ok-clause-moves c =
    moves_one (Left c.args.slot c.args.now c.left.result) c.args.meetings.now c.left.new.self
    (record { others = c.left.ensures.others; free = c.left.ensures.free }, c.left.ensures.took) (λ slot. refl)

pub returns-in-Ok-clause-spares : goal.returns-in-Ok-clause-spares
returns-in-Ok-clause-spares c = λ cs free.
    free_one cs (Left c.args.slot c.args.now c.left.result) c.args.meetings.now c.left.new.self
    (record { others = c.left.ensures.others; free = c.left.ensures.free }, c.left.ensures.took) (λ slot. refl) free

pub returns-in-Err-clause-moves : goal.returns-in-Err-clause-moves
returns-in-Err-clause-moves c =
    moves_one (Left c.args.slot c.args.now c.left.result) c.args.meetings.now c.left.new.self
    (record { others = c.left.ensures.others; free = c.left.ensures.free }, c.left.ensures.took) (λ slot. refl)

pub returns-in-Err-clause-spares : goal.returns-in-Err-clause-spares
returns-in-Err-clause-spares c = λ cs free.
    free_one cs (Left c.args.slot c.args.now c.left.result) c.args.meetings.now c.left.new.self
    (record { others = c.left.ensures.others; free = c.left.ensures.free }, c.left.ensures.took) (λ slot. refl) free

pub returns-clause-moves : goal.returns-clause-moves
returns-clause-moves c =
    moves_one (LeaveAt c.args.slot) c.args.meetings.now c.leave-left.new.self
    (record { others = c.leave-left.ensures.others; free = c.leave-left.ensures.free }, c.leave-left.ensures.took) (λ slot. refl)

pub returns-clause-spares : goal.returns-clause-spares
returns-clause-spares c = λ cs free.
    free_one cs (LeaveAt c.args.slot) c.args.meetings.now c.leave-left.new.self
    (record { others = c.leave-left.ensures.others; free = c.leave-left.ensures.free }, c.leave-left.ensures.took) (λ slot. refl) free
