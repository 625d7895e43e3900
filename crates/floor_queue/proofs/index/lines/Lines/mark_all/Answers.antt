use Rattle.std.proofs.Common.{◌<◌, ap, arith, length}
use Rattle.floor_queue.specs.steps.Lines.{with_mark}
use Rattle.floor_queue.proofs.Loops.{set-map_front}
use Rattle.floor_queue.proofs.index.lines.Lines.mark_all.Goals as goal

pub loop-line-preserved : goal.loop-line-preserved
loop-line-preserved c =
    let within : c.loop-line.line-index < length c.args.self.now = omega (arith, ap length c.self.view_is) in
    let within_now : c.loop-line.line-index < length c.loop-line.line-items = omega arith in
    set-map_front with_mark c.args.self.now c.loop-line.line-items c.loop-line.line-index _ _ within within_now
    c.set_mark.ensures c.loop-line.invariant
