use Rattle.std.proofs.Common.{◌∙◌, ap, refl}
use Rattle.floor_serve.specs.Seat.{Seat}
use Rattle.floor_serve.proofs.Submitting.{served-more, served-refused, served-rest, served-stopped}
use Rattle.floor_serve.proofs.reading.submit_all.Goals as goal

pub loop-frame-preserved : goal.loop-frame-preserved
loop-frame-preserved g c =
    let m = rw c.in-Some.is at c.in_ok-frame.ensures.found in
    record {
      served = served-more c.args.seat.now c.loop-frame.seat c.submit.new.seat c.args.framer.now c.loop-frame.framer c.next.new.self c.in-Some.frame c.in_ok-submit.field-0.place c.loop-frame.invariant.served m.0 m.1 c.in_ok-submit.ensures.took;
      conference = ap (λ (s : Seat). s.conference) c.in_ok-submit.ensures.took ∙ c.loop-frame.invariant.conference;
    }

pub returns-clause-rest : goal.returns-clause-rest
returns-clause-rest g c =
    let m = rw c.in_default.is at c.in_ok-frame.ensures.found in
    served-rest c.args.seat.now c.loop-frame.seat c.args.framer.now c.loop-frame.framer c.next.new.self c.loop-frame.invariant.served m.0 m.1

pub returns-in_err-frame-clause-left : goal.returns-in_err-frame-clause-left
returns-in_err-frame-clause-left g c =
    served-stopped c.from_residual.result c.args.seat.now c.loop-frame.seat c.loop-frame.seat c.args.framer.now c.loop-frame.framer c.from_residual.ensures.1 c.loop-frame.invariant.served refl

pub returns-in_err-submit-clause-left : goal.returns-in_err-submit-clause-left
returns-in_err-submit-clause-left g c =
    let m = rw c.in-Some.is at c.in_ok-frame.ensures.found in
    served-refused c.from_residual-in_err-submit.result c.in_err-submit.field-0.0 c.args.seat.now c.loop-frame.seat c.submit.new.seat c.args.framer.now c.loop-frame.framer c.next.new.self c.in-Some.frame c.from_residual-in_err-submit.ensures.1 c.loop-frame.invariant.served m.0
    c.in_err-submit.ensures.left
