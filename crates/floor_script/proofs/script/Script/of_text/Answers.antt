use Rattle.std.proofs.Common.{ℕ, ◌∙◌, subst, sym}
use Rattle.floor_script.proofs.Dividing.{Passed, found_here, passed_more, passed_none}
use Rattle.floor_script.proofs.script.Script.of_text.Goals as goal

pub loop-line-init : goal.loop-line-init
loop-line-init c = passed_none c.args.text.now _ _ c.of_text-lines.ensures.read c.of_text-lines.ensures.rest

pub loop-line-preserved : goal.loop-line-preserved
loop-line-preserved c =
    subst (λ (n : ℕ). Passed c.args.text.now n c.cut.new.self.rest.now) (sym c.in-Some.ensures.next.0)
    (passed_more c.args.text.now c.loop-line.lines.read c.loop-line.lines.rest.now c.in-Some.line.text.now c.cut.new.self.rest.now c.loop-line.invariant
    c.in-Some.ensures.lines c.in-Some.ensures.next.1 (sym c.is_divider.ensures ∙ c.if-is_divider.false))

pub returns-then-is_divider-clause-configuration : goal.returns-then-is_divider-clause-configuration
returns-then-is_divider-clause-configuration c =
    (found_here c.args.text.now c.loop-line.lines.read c.loop-line.lines.rest.now c.in-Some.line.text.now c.cut.new.self.rest.now c.strip_suffix.result c.loop-line.invariant
    c.in-Some.ensures.lines c.in-Some.ensures.next.1 (sym c.is_divider.ensures ∙ c.if-is_divider.true) c.strip_suffix.ensures.cases).configuration

pub returns-then-is_divider-clause-lines : goal.returns-then-is_divider-clause-lines
returns-then-is_divider-clause-lines c =
    (found_here c.args.text.now c.loop-line.lines.read c.loop-line.lines.rest.now c.in-Some.line.text.now c.cut.new.self.rest.now c.strip_suffix.result c.loop-line.invariant
    c.in-Some.ensures.lines c.in-Some.ensures.next.1 (sym c.is_divider.ensures ∙ c.if-is_divider.true) c.strip_suffix.ensures.cases).lines
