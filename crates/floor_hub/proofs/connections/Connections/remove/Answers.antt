use Rattle.std.proofs.Common.{sym}
use Rattle.floor_hub.proofs.Slotted.{removed_slotted}
use Rattle.floor_hub.proofs.connections.Connections.remove.Goals as goal

pub invariant_of-self : goal.invariant_of-self
invariant_of-self c =
    removed_slotted (record { numbers = c.self.inside.keys.entries; slots = c.self.inside.slots.slots }) (record { numbers = c.swap_remove.new.self.entries; slots = c.try_remove.new.self.slots })
    c.args.number c.in-Some.key c.self.invariant (sym c.in-Some.ensures.value) c.swap_remove.ensures.updates.1 c.swap_remove.ensures.updates.2 c.try_remove.ensures.updates.changed c.try_remove.ensures.updates.others
