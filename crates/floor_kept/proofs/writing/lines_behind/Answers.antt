use Rattle.std.proofs.Common.{◌≤◌, ◌-◌, length, string_bytes, arith}
use Rattle.floor_kept.proofs.Written.{lines_more}
use Rattle.floor_kept.proofs.writing.lines_behind.Goals as goal

pub loop-at-preserved : goal.loop-at-preserved
loop-at-preserved c =
    let inv = c.loop-at.invariant in
    let few : c.in_ok-at.field-0 ≤ length c.args.journal.now - c.loop-at.at = c.in_ok-at.ensures.within in
    record {
      from = omega (arith, inv.from);
      within = omega (arith, inv.within, few);
      text_is = lines_more c.args.journal.now c.args.done c.loop-at.at c.in_ok-at.field-0 (string_bytes c.loop-at.text) (string_bytes c.add_lines.new.text) inv.from inv.within few inv.text_is c.in_ok-at.ensures.lines;
    }
