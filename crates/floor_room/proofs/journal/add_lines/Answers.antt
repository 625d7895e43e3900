use Rattle.std.proofs.Common.{◌-◌, ◌<◌, ◌≤◌, ◌+◌, length, arith}
use Rattle.std.specs.Prelude.{string_bytes}
use Rattle.floor_room.proofs.Lines.{piece-more}
use Rattle.floor_room.proofs.journal.add_lines.Goals as goal

pub loop-added-preserved : goal.loop-added-preserved
loop-added-preserved c =
    let within : c.loop-added.added < length c.args.events.now - c.args.done = omega arith in
    let few : c.loop-added.added < 4096 = omega arith in
    let one : 1 ≤ c.loop-added.added + 1 = omega arith in
    let most : c.loop-added.added + 1 ≤ 4096 = omega (arith, few) in
    let fits : c.loop-added.added + 1 ≤ length c.args.events.now - c.args.done = omega (arith, within) in (
      one,
      most,
      fits,
      piece-more c.args.events.now c.args.done c.loop-added.added c.index-events-done-in-loop-added.result (string_bytes c.args.text.now) (string_bytes c.loop-added.text) (string_bytes c.add_line-in-loop-added.new.text) within c.index-events-done-in-loop-added.is c.in_ok-add_line-2.ensures c.loop-added.invariant.3,
    )
