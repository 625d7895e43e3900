use Rattle.std.proofs.Common.{◌∙◌, ◌++◌, List, ap, drop, map, take}
use Rattle.floor_queue.specs.steps.Lines.{FloorLine, added, taken}
use Rattle.floor_queue.proofs.Lining.{taken-added}
use Rattle.floor_queue.proofs.Loops.{map-undone}
use Rattle.floor_queue.proofs.index.lines.Lines.add.Goals as goal

pub returns-then-count-len-clause-left : goal.returns-then-count-len-clause-left
returns-then-count-len-clause-left c =
    c.take_from_first.ensures
    ∙ ap (λ (ls : List FloorLine). map (taken c.args.request.now c.args.rank) (take c.add_to_first-count.result ls) ++ drop c.add_to_first-count.result ls) c.add_to_first-count.ensures.items
    ∙ map-undone (added c.args.request.now c.args.rank) (taken c.args.request.now c.args.rank) (taken-added c.args.request.now c.args.rank) c.add_to_first-count.result c.self.inside.lines.items
    ∙ c.self.view_is
