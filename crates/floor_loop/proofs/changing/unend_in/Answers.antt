use Rattle.std.proofs.Common.{ap, sym, ◌∙◌}
use Rattle.floor_loop.specs.steps.Changed.{unended}
use Rattle.floor_loop.proofs.Altering.{changed-is, changed-none}
use Rattle.floor_loop.proofs.changing.unend_in.Goals as goal

pub returns-in-Some : goal.returns-in-Some
returns-in-Some c =
    let h = c.get_mut.follows.holds c.unend.new.self in
    record { next = h.0 ∙ changed-is unended c.args.number c.args.outgoing.now.entries c.in-Some.one.now c.unend.new.self (sym c.in-Some.ensures.value) c.unend.ensures.next }

pub returns-in-None : goal.returns-in-None
returns-in-None c = record { next = ap (λ m. m.entries) c.get_mut.follows.holds-at-none ∙ sym (changed-none unended c.args.number c.args.outgoing.now.entries (sym c.in-None.ensures.value)) }
