use Rattle.std.proofs.Common.{ℕ, ◌≤◌, ◌∙◌, length, vec_capacity, ap, sym, subst}
use Rattle.floor_room.specs.Room as spec
use Rattle.floor_room.specs.steps.Kept.{Keeps}
use Rattle.floor_room.proofs.Taking.{counted-more, keeps-given, le-of}
use Rattle.floor_room.proofs.room.Room.take.Goals as goal

pub take-requires : goal.take-requires
take-requires c = counted-more (length c.self.inside.ledger.journal) 2000000 c.self.inside.outboxes.items c.self.invariant.room.journal.count c.self.invariant.counted

pub invariant_of-self : goal.invariant_of-self
invariant_of-self c =
    let r : spec.Room = record { ledger = c.self.inside.ledger; outboxes = c.self.inside.outboxes.items; told = c.self.inside.told; kept = c.self.inside.kept } in
    let now : spec.Room = record r { outboxes = c.take.new.outboxes.items } in
    let kept : r.told ≤ r.kept = le-of r.told r.kept (ap (λ (x : spec.Room). spec.is_kept x) c.self.view_is ∙ sym c.if-is_kept.ensures.value) in
    subst (λ (x : ℕ). Keeps now x) (sym c.take.ensures.capacity)
    (keeps-given r c.take.new.outboxes.items (vec_capacity c.self.inside.outboxes) c.args.n c.take.result c.self.invariant kept c.take.ensures.given)
