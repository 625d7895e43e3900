use Rattle.std.proofs.Common.{◌∙◌}
use Rattle.floor_machine.specs.declared.event.Event.TheVariants.{Join}
use Rattle.floor_machine.specs.Journal.{parcels_of}
use Rattle.floor_room.specs.Ledger.{conference_of}
use Rattle.floor_room.proofs.Adding.{joined-number}
use Rattle.floor_room.proofs.room.Room.join.Goals as goal

pub returns-clause-number : goal.returns-clause-number
returns-clause-number c =
    c.members.ensures
    ∙ joined-number c.args.self.now c.add.new.self c.args.user (parcels_of (conference_of c.args.self.now.ledger) (Join c.args.user)) c.journal-journal.ensures.kept c.in_ok-add.ensures.took.next
