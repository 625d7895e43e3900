use Rattle.std.proofs.Common.{[]}
use Rattle.floor_serve.proofs.Growing.{failed-header, failed-second-any}
use Rattle.floor_serve.proofs.writing.write_parcel.Goals as goal

pub returns-in-Err-clause-failed : goal.returns-in-Err-clause-failed
returns-in-Err-clause-failed g c =
    failed-header (g.S.Sink.contents c.args.sink.now) (g.S.Sink.contents c.write_all.new.sink) [] c.header.result.now c.args.parcel.now.bytes 0 c.in-Err.fault.bytes c.header.ensures.value c.in-Err.ensures.failed

pub returns-clause-failed : goal.returns-clause-failed
returns-clause-failed g c =
    failed-second-any (g.S.Sink.contents c.args.sink.now) (g.S.Sink.contents c.write_all.new.sink) (g.S.Sink.contents c.write_all-2.new.sink) c.header.result.now c.payload.result.now
    c.args.parcel.now.bytes c.write_all.new.total c.write_all-2.result c.header.ensures.value c.payload.ensures.value c.in-Ok.ensures.grew c.in-Ok.ensures.total c.write_all-2.ensures.failed
