use Rattle.std.proofs.Common.{sym, ◌∙◌}
use Rattle.std.proofs.KnownBytes.{Appends-nil}
use Rattle.floor_script.proofs.Printing.{leaves_command, never_ok, runs_silent}
use Rattle.floor_script.proofs.running.run_line.Goals as goal

pub returns-then-is_silent : goal.returns-then-is_silent
returns-then-is_silent g c = runs_silent c.args.line.number c.args.line.text.now _ _ (sym c.is_silent.ensures ∙ c.if-is_silent.true)

pub returns-in-Ok-answer : goal.returns-in-Ok-answer
returns-in-Ok-answer g c =
    leaves_command c.print.result c.args.line.number c.args.line.text.now c.in-Ok.command _ _ _ _ _ _ (sym c.is_silent.ensures ∙ c.if-is_silent.false) c.in-Ok.ensures.value c.in-Ok-answer.ensures.took c.as_str.ensures.value c.print.ensures

pub returns-in-Err-answer : goal.returns-in-Err-answer
returns-in-Err-answer g c = Appends-nil _

pub returns-in-Err : goal.returns-in-Err
returns-in-Err g c =
    never_ok c.refuse_line.result _ _ _ c.refuse_line.ensures (λ left h. h c.args.conferences.now (sym c.is_silent.ensures ∙ c.if-is_silent.false) c.in-Err.ensures.value)
