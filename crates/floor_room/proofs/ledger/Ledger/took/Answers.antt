use Rattle.std.proofs.Common.{◌≡◌, sym, subst}
use Rattle.std.specs.Prelude.{None}
use Rattle.floor_machine.specs.declared.event.Event.TheVariants.{Took}
use Rattle.floor_room.specs.Ledger as spec
use Rattle.floor_room.specs.Ledger.{closed}
use Rattle.floor_room.proofs.Ledgers.{IsOpen, ledger-taken, opened}
use Rattle.floor_room.proofs.ledger.Ledger.took.Goals as goal

pub invariant_of-self-2 : goal.invariant_of-self-2
invariant_of-self-2 c =
    let l : spec.Ledger = record { config = c.self.inside.config; journal = c.self.inside.journal.items; is_broken = c.self.inside.is_broken } in
    let o : IsOpen l = opened l (subst (λ (x : spec.Ledger). None ≡ closed x) (sym c.self.view_is) c.in-None.ensures.value) in
    ledger-taken l c.self.inside.machine c.took.new.self (Took c.args.n c.args.k) c.push.new.journal.items c.self.invariant o c.in-Ok.ensures.took.lawful c.in-Ok.ensures.took.next
    c.in-Ok-push.ensures.next
