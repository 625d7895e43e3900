use Rattle.std.proofs.Common.{◌≡◌, sym, subst}
use Rattle.std.specs.Prelude.{None}
use Rattle.floor_room.specs.Ledger as spec
use Rattle.floor_room.specs.Ledger.{closed}
use Rattle.floor_room.proofs.Ledgers.{IsOpen, ledger-few, ledger-taken, opened}
use Rattle.floor_room.proofs.ledger.Ledger.call.Goals as goal

pub apply-requires : goal.apply-requires
apply-requires c =
    let l : spec.Ledger = record { config = c.self.inside.config; journal = c.self.inside.journal.items; is_broken = c.self.inside.is_broken } in
    ledger-few l c.self.inside.machine c.self.invariant (opened l (subst (λ (x : spec.Ledger). None ≡ closed x) (sym c.self.view_is) c.in-None.ensures.value))

pub invariant_of-self-in-Ok-put : goal.invariant_of-self-in-Ok-put
invariant_of-self-in-Ok-put c =
    let l : spec.Ledger = record { config = c.self.inside.config; journal = c.self.inside.journal.items; is_broken = c.self.inside.is_broken } in
    let o : IsOpen l = opened l (subst (λ (x : spec.Ledger). None ≡ closed x) (sym c.self.view_is) c.in-None.ensures.value) in
    ledger-taken l c.self.inside.machine c.apply.new.self c.args.event c.put.new.journal.items c.self.invariant o c.in-Ok.ensures.took.lawful c.in-Ok.ensures.took.next
    c.in-Ok-put.ensures.next
