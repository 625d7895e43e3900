use Rattle.std.proofs.Common.{List, ℕ, Option, subst}
use Rattle.floor_config.specs.Outcome.{Fails}
use Rattle.floor_script.specs.Run.{configurations}
use Rattle.floor_script.proofs.Outcomes.{far_begun, far_end, far_more, leaves_by}
use Rattle.floor_script.proofs.Printing.{never_ok}
use Rattle.floor_script.proofs.running.run_text.Goals as goal

pub loop-conferences-init : goal.loop-conferences-init
loop-conferences-init g c =
    far_begun c.args.text.now _ c.new-conferences.result c.open_all.new.conferences _ _ _ c.new-conferences.ensures.value c.of_text-script.ensures.configuration c.in-Ok.ensures.took c.of_text-script.ensures.lines c.of_text-script.ensures.numbers

pub loop-conferences-preserved : goal.loop-conferences-preserved
loop-conferences-preserved g c =
    far_more c.args.text.now c.in-Some.line.text.now _ _ c.in-Some.line.number c.loop-conferences.lines.read _ c.loop-conferences.lines.rest.now _ _ _ _ c.loop-conferences.invariant c.in-Some.ensures.lines c.in-Some.ensures.line.0 c.in-Some.ensures.next.0 c.in-Ok-run_line.ensures

pub returns-in-None : goal.returns-in-None
returns-in-None g c = far_end c.args.text.now _ c.loop-conferences.lines.read c.loop-conferences.lines.rest.now _ _ c.loop-conferences.invariant c.in-None.ensures.line

pub returns-in-Err-run_line : goal.returns-in-Err-run_line
returns-in-Err-run_line g c =
    leaves_by c.in-Err-run_line.fault c.args.text.now c.in-Some.line.text.now _ c.in-Some.line.number c.loop-conferences.lines.read c.loop-conferences.lines.rest.now c.cut.new.self.rest.now _ _ _ c.loop-conferences.invariant c.in-Some.ensures.lines c.in-Some.ensures.line.0 c.in-Err-run_line.ensures

pub returns-in-Err : goal.returns-in-Err
returns-in-Err g c =
    let fails = subst (λ (o : Option (List ℕ)). Fails c.in-Err.fault (configurations o)) c.of_text-script.ensures.configuration c.in-Err.ensures.refused in
    never_ok c.refuse_configuration.result _ _ _ c.refuse_configuration.ensures (λ left h. h c.args.text.now fails)
