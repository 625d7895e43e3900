use Rattle.std.proofs.Common.{◌≡◌, ℕ, List, ap, arith, length, refl, ◌∙◌, subst}
use Rattle.std.specs.Prelude.{Option, Some, is_some}
use Rattle.slab.specs.Slab.{Slab, Updates, get, slab_len}
use Rattle.floor_sockets.specs.declared.deadlines.Deadline.{Deadline}
use Rattle.floor_sockets.specs.declared.life.Life.{Life}
use Rattle.floor_sockets.specs.Life.{opened}
use Rattle.floor_sockets.proofs.Listing.{left_listed}
use Rattle.floor_sockets.proofs.Timing.{no_more_than, opened_kept, opened_listed, opened_there, put_sound, set_sound, without-shorter}
use Rattle.floor_sockets.proofs.sockets.Sockets.open.Goals as goal

pub invariant_of-self-in_err-reserve-2 : goal.invariant_of-self-in_err-reserve-2
invariant_of-self-in_err-reserve-2 c =
    let same : (k : ℕ) → get c.reserve.new.self k ≡ get c.self.inside.lives k = λ k. ap (λ (s : Slab Life). get s k) c.reserve.ensures.rest_kept in
    let len : slab_len c.reserve.new.self ≡ slab_len c.self.inside.lives = ap (λ (s : Slab Life). slab_len s) c.reserve.ensures.rest_kept in
    let room = c.self.invariant.room in
    let more = c.reserve-2.ensures.more in
    set_sound c.self.inside.lives c.reserve.new.self c.self.inside.line c.self.inside.line c.self.inside.is_short c.self.inside.is_short c.self.inside.deadlines c.reserve-2.new.self c.self.invariant c.reserve-2.ensures.items
    (omega (arith, len, room, more)) (λ whole listed. left_listed c.self.inside.lives c.reserve.new.self c.self.inside.line c.self.inside.line same (λ k. refl) (listed whole)) (λ h. h)
    (λ k h. ap (λ (z : Option Life). is_some z) (same k) ∙ h)

pub put-requires : goal.put-requires
put-requires c =
    let few = no_more_than c.self.inside.lives c.self.inside.deadlines.items c.self.invariant.alive c.self.invariant.few in
    let fewer = without-shorter c.reserve-2.new.self.items c.insert_reserved-slot.result in
    let same = ap (λ (ds : List Deadline). length ds) c.reserve-2.ensures.items in
    let len : slab_len c.reserve.new.self ≡ slab_len c.self.inside.lives = ap (λ (s : Slab Life). slab_len s) c.reserve.ensures.rest_kept in
    let room = c.in_ok-reserve-2.ensures.room in
    omega (arith, few, fewer, same, len, room)

pub invariant_of-self-2 : goal.invariant_of-self-2
invariant_of-self-2 c =
    let same : (k : ℕ) → get c.reserve.new.self k ≡ get c.self.inside.lives k = λ k. ap (λ (s : Slab Life). get s k) c.reserve.ensures.rest_kept in
    let len : slab_len c.reserve.new.self ≡ slab_len c.self.inside.lives = ap (λ (s : Slab Life). slab_len s) c.reserve.ensures.rest_kept in
    let more = c.reserve-2.ensures.more in
    let old_room = c.self.invariant.room in
    let room =
    set_sound c.self.inside.lives c.reserve.new.self c.self.inside.line c.self.inside.line c.self.inside.is_short c.self.inside.is_short c.self.inside.deadlines c.reserve-2.new.self c.self.invariant c.reserve-2.ensures.items
    (omega (arith, len, old_room, more)) (λ whole listed. left_listed c.self.inside.lives c.reserve.new.self c.self.inside.line c.self.inside.line same (λ k. refl) (listed whole)) (λ h. h)
    (λ k h. ap (λ (z : Option Life). is_some z) (same k) ∙ h) in
    let u = subst (λ (z : Life). Updates c.reserve.new.self c.insert_reserved-slot.new.self c.insert_reserved-slot.result (Some z)) c.new.ensures.value c.insert_reserved-slot.ensures.updates in
    let one = c.insert_reserved-slot.ensures.len in
    let fits = c.in_ok-reserve-2.ensures.room in
    put_sound c.insert_reserved-slot.new.self c.self.inside.line c.self.inside.is_short _ c.insert_reserved-slot.result _ c.reserve-2.new.self c.put.new.self
    (set_sound c.reserve.new.self c.insert_reserved-slot.new.self c.self.inside.line c.self.inside.line c.self.inside.is_short c.self.inside.is_short c.reserve-2.new.self c.reserve-2.new.self room refl
    (omega (arith, one, fits))
    (λ whole listed. opened_listed c.reserve.new.self c.insert_reserved-slot.new.self c.self.inside.line c.insert_reserved-slot.result c.args.role c.args.group u (listed whole)) (λ h. h)
    (opened_kept c.reserve.new.self c.insert_reserved-slot.new.self c.insert_reserved-slot.result (opened c.args.role c.args.group) u))
    c.put.ensures.next c.put.ensures.room (opened_there c.reserve.new.self c.insert_reserved-slot.new.self c.insert_reserved-slot.result (opened c.args.role c.args.group) u)
