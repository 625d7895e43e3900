use Rattle.std.proofs.Common.{◌<◌, List, length, arith, subst}
use Rattle.floor_listen.proofs.Places.{removed}
use Rattle.floor_listen.specs.declared.connections.Running.{Running}
use Rattle.floor_listen.proofs.connections.Connections.end.Goals as goal

pub invariant_of-self : goal.invariant_of-self
invariant_of-self g c =
    let Within : List Running → Type 0 = λ l. c.in-Some.place < length l in
    let kept = removed c.self.inside.running.items _ c.in-Some.place c.self.inside.begun c.remove.ensures.items (subst Within c.as_slice.ensures.value c.in-Some.ensures.within) c.self.invariant.0 c.self.invariant.1 in
    (kept.0, kept.1, omega (arith, c.self.invariant.2, c.remove.ensures.len, c.push_reserved.ensures.len, c.push_reserved.ensures.capacity))

pub invariant_of-self-in_default-seat : goal.invariant_of-self-in_default-seat
invariant_of-self-in_default-seat g c =
    let Within : List Running → Type 0 = λ l. c.in-Some.place < length l in
    let kept = removed c.self.inside.running.items _ c.in-Some.place c.self.inside.begun c.remove.ensures.items (subst Within c.as_slice.ensures.value c.in-Some.ensures.within) c.self.invariant.0 c.self.invariant.1 in
    (kept.0, kept.1, omega (arith, c.self.invariant.2, c.remove.ensures.len))
