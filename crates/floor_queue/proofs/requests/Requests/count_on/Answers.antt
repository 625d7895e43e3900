use Rattle.std.proofs.Common.{◌∙◌, ap, length, sym, List}
use Rattle.std.specs.Prelude.{count_by}
use Rattle.floor_queue.specs.declared.index.rank.Rank.{Rank}
use Rattle.floor_queue.specs.Order.{names}
use Rattle.floor_queue.specs.Queue.{Queue}
use Rattle.floor_queue.proofs.OnFloors.{line-count, none-count}
use Rattle.floor_queue.proofs.requests.Requests.count_on.Goals as goal

pub returns-in-Some : goal.returns-in-Some
returns-in-Some c =
    let q : Queue = record { floors = c.self.inside.floors.items; given = c.self.inside.given; ongoing = c.self.inside.ongoing } in
    ap (λ (ranks : List Rank). length ranks) c.ranks.ensures
    ∙ line-count q c.self.inside.lines c.args.floor c.in-Some.line.now c.self.invariant.1 (sym c.in-Some.ensures)
    ∙ ap (λ (q : Queue). count_by (λ r. names r c.args.floor) q.ongoing) c.self.view_is

pub returns-in-None : goal.returns-in-None
returns-in-None c =
    let q : Queue = record { floors = c.self.inside.floors.items; given = c.self.inside.given; ongoing = c.self.inside.ongoing } in
    sym (none-count q c.self.inside.lines c.args.floor c.self.invariant.0 c.self.invariant.1 (sym c.in-None.ensures))
    ∙ ap (λ (q : Queue). count_by (λ r. names r c.args.floor) q.ongoing) c.self.view_is
