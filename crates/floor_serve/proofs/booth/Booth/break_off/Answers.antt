use Rattle.std.proofs.Common.{refl}
use Rattle.floor_machine.specs.declared.machine.Refusal.TheVariants.{Memory}
use Rattle.floor_room.specs.declared.refusal.RoomRefusal.TheVariants.{Refused}
use Rattle.floor_serve.specs.Booth as spec
use Rattle.floor_serve.proofs.Booths.{booth-unadded}
use Rattle.floor_serve.proofs.booth.Booth.break_off.Goals as goal

pub invariant_of-self : goal.invariant_of-self
invariant_of-self c =
    let b : spec.Booth = record { ledger = c.self.inside.ledger; senders = c.self.inside.senders.items; waking = c.self.inside.wakers } in
    booth-unadded b c.break_off.new.self c.self.inside.senders.items (Refused Memory) c.self.invariant c.break_off.ensures.next refl
