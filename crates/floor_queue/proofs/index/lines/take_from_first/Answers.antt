use Rattle.std.proofs.Common.{◌<◌, ◌∙◌, ap, arith, length}
use Rattle.floor_queue.specs.steps.Lines.{taken}
use Rattle.floor_queue.proofs.Loops.{length-map_front, set-map_front}
use Rattle.floor_queue.proofs.index.lines.take_from_first.Goals as goal

pub loop-index-preserved : goal.loop-index-preserved
loop-index-preserved c =
    let within : c.loop-index.index < length c.args.lines.now.items = omega arith in
    let within_now : c.loop-index.index < length c.loop-index.lines.items = omega (arith, ap length c.loop-index.invariant, length-map_front (taken c.args.request.now c.args.rank) c.loop-index.index c.args.lines.now.items) in
    set-map_front (taken c.args.request.now c.args.rank) c.args.lines.now.items c.loop-index.lines.items c.loop-index.index c.index_mut.result.now c.take.new.self within within_now
    (c.take.ensures ∙ ap (taken c.args.request.now c.args.rank) c.index_mut.ensures.value) c.loop-index.invariant
