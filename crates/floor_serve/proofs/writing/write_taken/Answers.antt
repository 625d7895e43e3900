use Rattle.std.proofs.Common.{◌∙◌, List, refl, sym, ap, subst}
use Rattle.floor_machine.specs.Parcel.{Parcel}
use Rattle.floor_outbox.specs.Ends.{Taker}
use Rattle.floor_serve.specs.Written.{Gathered}
use Rattle.floor_serve.proofs.Growing.{gathered-start, gathered-more, gathered-flushed, stopped-gathering, stopped-flushing}
use Rattle.floor_serve.proofs.writing.write_taken.Goals as goal

pub loop-init : goal.loop-init
loop-init g c = record { unmarked = c.requires; pair = refl; gathered = gathered-start _ _ _ c.gathering-buffer.ensures }

pub returns-in-Err-clause-stopped : goal.returns-in-Err-clause-stopped
returns-in-Err-clause-stopped g c =
    let was = g.S.Sink.contents c.loop.sink in
    let now = g.S.Sink.contents c.take_up.new.sink in
    stopped-gathering _ c.loop.taker.taken _ _ was now c.loop.buffer.items c.loop.parcels c.loop.bytes c.in-Err.fault.bytes c.in-Parcel.parcel c.loop.invariant.gathered (ap (λ (t : Taker). t.taken) c.in-Parcel.ensures.next)
    c.in-Err.ensures.failed

pub loop-preserved-in-Ok : goal.loop-preserved-in-Ok
loop-preserved-in-Ok g c =
    let was = g.S.Sink.contents c.loop.sink in
    let now = g.S.Sink.contents c.take_up.new.sink in
    record {
      unmarked = c.in-Ok.ensures.unmarked;
      pair = ap (λ (t : Taker). t.pair) c.in-Parcel.ensures.next ∙ c.loop.invariant.pair;
      gathered = gathered-more _ c.loop.taker.taken _ _ was now c.loop.buffer.items c.take_up.new.buffer.items c.loop.parcels c.loop.bytes _ c.take_up.new.total c.in-Parcel.parcel c.loop.invariant.gathered (ap (λ (t : Taker). t.taken) c.in-Parcel.ensures.next)
          c.in-Ok.ensures.moved c.saturating_add-parcels.ensures;
    }

pub returns-in-Err-flush_and_acknowledge-clause-stopped : goal.returns-in-Err-flush_and_acknowledge-clause-stopped
returns-in-Err-flush_and_acknowledge-clause-stopped g c =
    stopped-flushing _ _ (g.S.Sink.contents c.args.sink.now) (g.S.Sink.contents c.loop.sink) (g.S.Sink.contents c.flush_and_acknowledge.new.sink) c.loop.buffer.items c.loop.parcels c.loop.bytes c.in-Err-flush_and_acknowledge.fault.bytes
    (subst (λ (ps : List Parcel). Gathered c.args.taker.now.taken ps (g.S.Sink.contents c.args.sink.now) (g.S.Sink.contents c.loop.sink) c.loop.buffer.items c.loop.parcels c.loop.bytes) (sym (ap (λ (t : Taker). t.taken) c.in-Empty.ensures.next)) c.loop.invariant.gathered)
    c.in-Err-flush_and_acknowledge.ensures.failed

pub returns-in-Err-flush_and_acknowledge-2-clause-stopped : goal.returns-in-Err-flush_and_acknowledge-2-clause-stopped
returns-in-Err-flush_and_acknowledge-2-clause-stopped g c =
    stopped-flushing _ _ (g.S.Sink.contents c.args.sink.now) (g.S.Sink.contents c.loop.sink) (g.S.Sink.contents c.flush_and_acknowledge-in-Closed.new.sink) c.loop.buffer.items c.loop.parcels c.loop.bytes c.in-Err-flush_and_acknowledge-2.fault.bytes
    (subst (λ (ps : List Parcel). Gathered c.args.taker.now.taken ps (g.S.Sink.contents c.args.sink.now) (g.S.Sink.contents c.loop.sink) c.loop.buffer.items c.loop.parcels c.loop.bytes) (sym (ap (λ (t : Taker). t.taken) c.in-Closed.ensures.next)) c.loop.invariant.gathered)
    c.in-Err-flush_and_acknowledge-2.ensures.failed

pub loop-preserved : goal.loop-preserved
loop-preserved g c =
    let kept = c.wait.ensures in
    record {
      unmarked = c.in-Ok-flush_and_acknowledge.ensures.unmarked;
      pair = ap (λ (t : Taker). t.pair) kept ∙ ap (λ (t : Taker). t.pair) c.in-Empty.ensures.next ∙ c.loop.invariant.pair;
      gathered = gathered-flushed _ _ (g.S.Sink.contents c.args.sink.now) (g.S.Sink.contents c.loop.sink) (g.S.Sink.contents c.flush_and_acknowledge.new.sink) c.loop.buffer.items c.flush_and_acknowledge.new.buffer.items c.loop.parcels c.loop.bytes c.flush_and_acknowledge.new.total
          (subst (λ (ps : List Parcel). Gathered c.args.taker.now.taken ps (g.S.Sink.contents c.args.sink.now) (g.S.Sink.contents c.loop.sink) c.loop.buffer.items c.loop.parcels c.loop.bytes) (sym (ap (λ (t : Taker). t.taken) kept ∙ ap (λ (t : Taker). t.taken) c.in-Empty.ensures.next)) c.loop.invariant.gathered)
          c.in-Ok-flush_and_acknowledge.ensures.grew c.in-Ok-flush_and_acknowledge.ensures.empty c.in-Ok-flush_and_acknowledge.ensures.total;
    }
