use Rattle.std.proofs.Common.{take, refl, arith}
use Rattle.std.specs.Prelude.{Err}
use Rattle.floor_serve.specs.Finish.{Finished}
use Rattle.floor_serve.specs.steps.Slots.{numbers}
use Rattle.floor_serve.proofs.Firsts.{err-as, found-broken, found-more, numbers-apart, numbers-more}
use Rattle.floor_serve.proofs.end.finish.look_all.Goals as goal

pub returns-in_err-found-clause-broken : goal.returns-in_err-found-clause-broken
returns-in_err-found-clause-broken g c =
    let apart = numbers-apart (λ s. s.conference) c.args.slots.now c.loop-slot.slot-index c.slot-item.result (omega arith) c.slot-item.is in
    let broken = c.in_err-found.ensures.broken in
    err-as (λ fault. Finished (numbers c.args.slots.now) c.args.seats.now (Err fault)) c.from_residual.result c.in_err-found.field-0.0 c.from_residual.ensures.1
    (found-broken (numbers (take c.loop-slot.slot-index c.args.slots.now)) (numbers c.args.slots.now) apart.0 c.args.seats.now c.loop-slot.events c.loop-slot.unfit c.slot-item.result.conference broken.0 c.in_err-found.field-0.0
    c.loop-slot.invariant.found apart.1 broken.1 broken.2 broken.3)

pub loop-slot-preserved : goal.loop-slot-preserved
loop-slot-preserved g c =
    let found = c.in_ok-found.ensures.found in
    record {
      found = found-more (numbers (take c.loop-slot.slot-index c.args.slots.now)) _ c.args.seats.now c.loop-slot.events c.loop-slot.unfit c.in_ok-found.found.events c.in_ok-found.found.unfit _ c.least-unfit.result c.slot-item.result.conference found.0
          c.loop-slot.invariant.found (numbers-more (λ s. s.conference) c.args.slots.now c.loop-slot.slot-index c.slot-item.result (omega arith) c.slot-item.is)
          found.1 found.2 found.3 found.4 refl c.least-unfit.ensures;
      few = omega (arith, c.loop-slot.invariant.few, found.1.journal.count, found.3);
    }
