use Rattle.std.proofs.Common.{◌<◌, length, arith}
use Rattle.floor_machine.proofs.Runs.{run-next, run-out, run-lawful, run-members}
use Rattle.floor_machine.proofs.machine.Machine.run.Goals as goal

pub apply-requires : goal.apply-requires
apply-requires c =
    let within : c.loop-done.done < length c.args.events.now = omega arith in
    run-members c.args.self.now c.loop-done.self c.args.events.now c.loop-done.done within c.loop-done.invariant.next c.requires

pub loop-done-preserved : goal.loop-done-preserved
loop-done-preserved c =
    let m = c.args.self.now in
    let es = c.args.events.now in
    let i = c.loop-done.done in
    let e = c.index-events-done.result in
    let within : i < length es = omega arith in
    let before = c.loop-done.invariant in
    record {
      next = run-next c.in-Ok.field-0 m c.loop-done.self c.apply.new.self es i e within c.index-events-done.is before.next c.in-Ok.ensures.refused c.in-Ok.ensures.took.next;
      out = run-out m c.loop-done.self es i e c.loop-done.out.items c.apply.new.out.items c.args.out.now.items within c.index-events-done.is before.next before.out c.in-Ok.ensures.took.out;
      lawful = run-lawful m c.loop-done.self es i e within c.index-events-done.is before.next before.lawful c.in-Ok.ensures.took.lawful;
    }
