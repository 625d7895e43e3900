use Rattle.std.proofs.Common.{◌∙◌, ap, map, List}
use Rattle.floor_queue.specs.steps.Lines.{FloorLine, added, taken}
use Rattle.floor_queue.proofs.Lining.{taken-added}
use Rattle.floor_queue.proofs.Loops.{map-undone_all}
use Rattle.floor_queue.proofs.ongoing.add_to_indexes.Goals as goal

pub returns-in-Err-clause-left_lines : goal.returns-in-Err-clause-left_lines
returns-in-Err-clause-left_lines c =
    c.take.ensures ∙ ap (λ (ls : List FloorLine). map (taken c.args.request.now c.args.rank) ls) c.in_ok-add.ensures.next
    ∙ map-undone_all (added c.args.request.now c.args.rank) (taken c.args.request.now c.args.rank) (taken-added c.args.request.now c.args.rank) c.args.lines.now
