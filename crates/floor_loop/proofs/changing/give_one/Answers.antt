use Rattle.std.proofs.Common.{ap, sym, ◌∙◌}
use Rattle.floor_loop.specs.steps.Changed.{given}
use Rattle.floor_loop.proofs.Altering.{changed-is, changed-none}
use Rattle.floor_loop.proofs.changing.give_one.Goals as goal

pub returns-in-Some : goal.returns-in-Some
returns-in-Some c =
    let h = c.get_mut.follows.holds c.give.new.self in
    record { next = h.0 ∙ changed-is given c.args.number c.args.outgoing.now.entries c.in-Some.one.now c.give.new.self (sym c.in-Some.ensures.value) c.give.ensures.next }

pub returns-in-None : goal.returns-in-None
returns-in-None c = record { next = ap (λ m. m.entries) c.get_mut.follows.holds-at-none ∙ sym (changed-none given c.args.number c.args.outgoing.now.entries (sym c.in-None.ensures.value)) }
