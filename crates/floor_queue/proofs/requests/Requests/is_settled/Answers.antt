use Rattle.floor_queue.specs.Queue.{Queue}
use Rattle.floor_queue.specs.steps.Lines.{IsLined}
use Rattle.floor_queue.proofs.Firsts.{has_due-lines}
use Rattle.floor_queue.proofs.Places.{settled_exactly}
use Rattle.floor_queue.proofs.requests.Requests.is_settled.Goals as goal

pub returns : goal.returns
returns c =
    let q : Queue = record { floors = c.self.inside.floors.items; given = c.self.inside.given; ongoing = c.self.inside.ongoing } in
    let lined : IsLined q.floors q.ongoing c.self.inside.lines =
    record { ascending = c.self.invariant.0.ascending; lined = c.self.invariant.1; marks = c.self.invariant.2 } in
    rw (c.has_due.ensures, c.deref.ensures.value, has_due-lines c.self.inside.floors.items c.self.inside.ongoing c.self.inside.lines lined, ← c.self.view_is)
    (settled_exactly c.self.inside.floors.items c.self.inside.ongoing)
