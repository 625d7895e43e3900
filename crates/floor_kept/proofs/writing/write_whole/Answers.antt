use Rattle.floor_kept.proofs.Written.{part_written}
use Rattle.floor_kept.proofs.writing.write_whole.Goals as goal

pub loop-at-preserved : goal.loop-at-preserved
loop-at-preserved g c =
    let more = part_written c.args.bytes.now c.loop-at.at c.in_ok-count.count (g.W.Write.contents c.args.sink.now) (g.W.Write.contents c.loop-at.sink) (g.W.Write.contents c.write.new.self)
    c.loop-at.invariant.within c.in_ok-count.ensures.bound c.loop-at.invariant.grew c.in_ok-count.ensures.bytes in
    record { within = more.0; grew = more.1 }
