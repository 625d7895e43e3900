use Rattle.std.proofs.Common.{◌-◌, ◌<◌, ◌≤◌, ◌+◌, length, arith}
use Rattle.std.specs.Prelude.{string_bytes}
use Rattle.floor_room.proofs.Lines.{pieces}
use Rattle.floor_room.proofs.journal.journal_text.Goals as goal

pub loop-done-preserved : goal.loop-done-preserved
loop-done-preserved c =
    let before : c.loop-done.done < length c.args.events.now = omega arith in
    let added : c.in_ok-done.field-0 ≤ length c.args.events.now - c.loop-done.done = c.in_ok-done.ensures.within in
    let within : c.loop-done.done + c.in_ok-done.field-0 ≤ length c.args.events.now = omega (arith, before, added) in (
      within,
      pieces c.args.events.now c.loop-done.done c.in_ok-done.field-0 (string_bytes c.loop-done.text) (string_bytes c.add_lines.new.text) before c.in_ok-done.ensures.lines c.loop-done.invariant.1,
    )
