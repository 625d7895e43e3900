use Rattle.std.proofs.Common.{◌∙◌, ap, Bool}
use Rattle.std.specs.Prelude.{◌&&◌, ◌||◌, ◌==◌}
use Rattle.std.specs.List.{list_any}
use Rattle.floor_queue.specs.Order.{names}
use Rattle.floor_queue.specs.Queue.{Queue, are_ascending, is_one_of}
use Rattle.floor_queue.proofs.OnFloors.{ascending-numbers, floors-numbers}
use Rattle.floor_queue.proofs.requests.Requests.numbers_on.Goals as goal

pub returns-clause-value : goal.returns-clause-value
returns-clause-value c = λ k.
    let q : Queue = record { floors = c.self.inside.floors.items; given = c.self.inside.given; ongoing = c.self.inside.ongoing } in
    ap (is_one_of k) c.from_vec.ensures
    ∙ c.in_ok-numbers.ensures.numbers k
    ∙ ap (λ (b : Bool). is_one_of k c.args.others.now || b) (floors-numbers q c.self.inside.lines k c.args.floors.now c.self.invariant.0 c.self.invariant.1)
    ∙ ap (λ (q : Queue). is_one_of k c.args.others.now || list_any (λ r. r.number == k && list_any (names r) c.args.floors.now) q.ongoing) c.self.view_is

pub returns-clause-ascending : goal.returns-clause-ascending
returns-clause-ascending c = ap are_ascending c.from_vec.ensures ∙ ascending-numbers c.in_ok-numbers.numbers.items ∙ c.in_ok-numbers.ensures.ascending
