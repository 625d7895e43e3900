use Rattle.floor_serve.proofs.Growing.{moved-then-flushed, failed-then-flushing}
use Rattle.std.proofs.Common.{◌++◌}
use Rattle.floor_serve.proofs.writing.take_up.Goals as goal

pub returns-clause-moved : goal.returns-clause-moved
returns-clause-moved g c =
    moved-then-flushed (g.S.Sink.contents c.args.sink.now) (g.S.Sink.contents c.gather.new.sink) (g.S.Sink.contents c.flush_and_acknowledge.new.sink) (c.args.buffer.now.items ++ c.args.parcel.bytes) c.gather.new.buffer.items c.flush_and_acknowledge.new.buffer.items
    c.args.total.now c.gather.new.total c.flush_and_acknowledge.new.total c.flush_and_acknowledge.result c.in-Ok.ensures.moved c.flush_and_acknowledge.ensures.grew c.flush_and_acknowledge.ensures.empty c.flush_and_acknowledge.ensures.total

pub returns-clause-failed : goal.returns-clause-failed
returns-clause-failed g c =
    failed-then-flushing (g.S.Sink.contents c.args.sink.now) (g.S.Sink.contents c.gather.new.sink) (g.S.Sink.contents c.flush_and_acknowledge.new.sink) (c.args.buffer.now.items ++ c.args.parcel.bytes) c.gather.new.buffer.items
    c.args.total.now c.gather.new.total c.flush_and_acknowledge.result c.in-Ok.ensures.moved c.flush_and_acknowledge.ensures.failed
