use Rattle.std.proofs.Common.{◌∙◌, sym, lit<, refl, rules, string_bytes}
use Rattle.floor_kept.proofs.Heads.{counted_more, passed_more, uncut}
use Rattle.floor_kept.proofs.head.cut_table.Goals as goal

pub loop-line-preserved : goal.loop-line-preserved
loop-line-preserved c =
    let h = c.in-Some.ensures.byte (lit< tt) (λ w o h. h) in
    let inv = c.loop-line.invariant.1 in (
      search rules,
      record {
        passed = passed_more c.args.text.now (string_bytes c.loop-line.table) _ c.loop-line.lines _ c.loop-line.rest.now c.in-Some.line.now c.in-Some.behind.now inv.passed h.0 h.1 h.2
            (sym c.eq.ensures ∙ c.if-eq.false) (rw c.in_ok-push_str.ensures.bytes at c.in_ok-push_str-2.ensures.bytes) refl;
        counted = counted_more c.args.text.now c.loop-line.rest.now c.in-Some.line.now c.in-Some.behind.now c.loop-line.lines _ inv.counted h.0 h.1 h.2 refl;
      },
    )

pub returns : goal.returns
returns c =
    uncut c.args.text.now (string_bytes c.loop-line.table) c.loop-line.lines c.loop-line.rest.now c.loop-line.invariant.1.passed
    (c.in_default.ensures.byte (lit< tt) (λ w o h. h))
