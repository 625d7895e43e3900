use Rattle.std.proofs.Common.{None, sym, slice_set}
use Rattle.std.specs.HashMap.{spare}
use Rattle.floor_meetings.specs.Members.{Members}
use Rattle.floor_meetings.proofs.Pairing.{elsewhere, left-paired, ranged, vacant}
use Rattle.floor_meetings.proofs.members.Members.leave.Goals as goal

pub invariant_of-self : goal.invariant_of-self
invariant_of-self c =
    let old : Members = record { slots = c.self.inside.slots.items; numbers = c.self.inside.numbers.entries; room = spare c.self.inside.numbers } in
    let new : Members = record { slots = slice_set c.self.inside.slots.items c.in-Some.slot None; numbers = c.swap_remove.new.self.entries; room = spare c.swap_remove.new.self } in
    let p = c.self.invariant.there c.args.number c.in-Some.slot (sym c.in-Some.ensures.value) in
    left-paired old new c.args.number c.in-Some.slot c.self.invariant (sym c.in-Some.ensures.value) c.swap_remove.ensures.updates.1 c.swap_remove.ensures.updates.2
    (vacant c.self.inside.slots.items c.in-Some.slot None (ranged c.self.inside.slots.items c.in-Some.slot p.0 p.1)) (λ k ne. elsewhere c.self.inside.slots.items c.in-Some.slot k None ne)
