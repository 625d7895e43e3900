use Rattle.std.proofs.Common.{◌≤◌, ◌∙◌, ap, arith, sym}
use Rattle.floor_queue.specs.Order.{holders}
use Rattle.floor_queue.specs.Queue.{Queue}
use Rattle.floor_queue.proofs.Changing.{holders_found}
use Rattle.floor_queue.proofs.Lining.{no_line}
use Rattle.floor_queue.proofs.requests.Requests.holders.Goals as goal

pub returns-in-Some : goal.returns-in-Some
returns-in-Some c =
    c.holders.ensures
    ∙ holders_found c.self.inside.floors.items c.self.inside.ongoing c.self.inside.lines c.args.floor c.in-Some.line.now c.self.invariant.1 (sym c.in-Some.ensures)
    ∙ ap (λ (q : Queue). holders q.ongoing c.args.floor) c.self.view_is

pub returns-in-None : goal.returns-in-None
returns-in-None c =
    let none : holders c.self.inside.ongoing c.args.floor ≤ 0 =
    rw (no_line c.args.floor c.self.inside.floors.items c.self.inside.lines c.self.invariant.1.floors_same (sym c.in-None.ensures)) at (c.self.invariant.0.holders_fit c.args.floor) in
    omega (arith, none, ap (λ (q : Queue). holders q.ongoing c.args.floor) c.self.view_is)
