use Rattle.std.proofs.Common.{Some, ap, ◌∙◌, subst}
use Rattle.floor_hub.specs.Connections.{Connections, Puts, connection_at}
use Rattle.floor_hub.proofs.Slotted.{inserted, inserted_slotted}
use Rattle.floor_hub.proofs.connections.Connections.insert.Goals as goal

pub invariant_of-self-in-Ok-insert : goal.invariant_of-self-in-Ok-insert
invariant_of-self-in-Ok-insert c =
    inserted_slotted (record { numbers = c.self.inside.keys.entries; slots = c.self.inside.slots.slots }) (record { numbers = c.insert-2.new.self.entries; slots = c.insert.new.self.slots })
    c.args.number c.in-Ok.key c.args.connection c.self.invariant c.in-Ok.ensures.was_vacant c.in-Ok-insert.ensures.updates.1 c.in-Ok-insert.ensures.updates.2
    c.in-Ok.ensures.updates.changed c.in-Ok.ensures.updates.others (ap (λ (h : Connections). connection_at h c.args.number) c.self.view_is ∙ c.requires.fresh)

pub returns-in-Ok-insert-clause-took : goal.returns-in-Ok-insert-clause-took
returns-in-Ok-insert-clause-took c =
    let new : Connections = record { numbers = c.insert-2.new.self.entries; slots = c.insert.new.self.slots } in
    subst (λ h. Puts h new c.args.number (Some c.args.connection)) c.self.view_is
    (inserted (record { numbers = c.self.inside.keys.entries; slots = c.self.inside.slots.slots }) new
    c.args.number c.in-Ok.key c.args.connection c.self.invariant c.in-Ok.ensures.was_vacant c.in-Ok-insert.ensures.updates.1 c.in-Ok-insert.ensures.updates.2
    c.in-Ok.ensures.updates.changed c.in-Ok.ensures.updates.others)
