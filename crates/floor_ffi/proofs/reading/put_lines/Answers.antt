use Rattle.std.proofs.Common.{◌+◌, ap, subst, arith, length, take, drop}
use Rattle.floor_room.specs.Text.{lines}
use Rattle.floor_ffi.specs.steps.Lines.{IsLine}
use Rattle.floor_hub.specs.declared.refusal.HubRefusal.TheVariants.{Memory}
use Rattle.floor_ffi.specs.declared.answers.FloorLines.{FloorLines}
use Rattle.floor_ffi.specs.declared.outcome.Outcome.TheVariants.{Refused}
use Rattle.floor_ffi.proofs.Lining.{puts-more, puts-none}
use Rattle.floor_ffi.proofs.reading.put_lines.Goals as goal

pub loop-added-init : goal.loop-added-init
loop-added-init c = puts-none c.args.events.now c.args.done (length c.args.room.now) c.args.room.now

pub split_at_mut-rest-requires : goal.split_at_mut-rest-requires
split_at_mut-rest-requires c = omega (arith, c.loop-added.invariant.within, c.loop-added.auto.room)

pub loop-added-preserved : goal.loop-added-preserved
loop-added-preserved c =
    puts-more c.args.events.now c.args.done c.loop-added.added c.loop-added.len (length c.args.room.now) c.in-Ok-Put.more c.loop-added.room c.split_at_mut-rest.result.0.now
    c.split_at_mut-rest.result.1.now c.put_line.new.room c.loop-added.invariant (omega (arith, c.loop-added-test.true)) c.split_at_mut-rest.ensures.front_len c.split_at_mut-rest.ensures.front
    (omega (arith, c.split_at_mut-rest.ensures.back_len, c.loop-added.auto.room))
    (subst (IsLine (lines (c.args.done + c.loop-added.added + 1) (take 1 (drop (c.args.done + c.loop-added.added) c.args.events.now))) (length c.split_at_mut-rest.result.1.now) c.put_line.new.room) c.in-Ok-Put.field-0-is c.in-Ok-Put.ensures.value)

pub returns-in-Err : goal.returns-in-Err
returns-in-Err c = record { value = (Refused Memory, ap (λ (x : FloorLines). x.result) c.put-in-Err.ensures.value, c.if-events-done.false) }
