use Rattle.std.proofs.Common.{refl}
use Rattle.floor_machine.specs.declared.event.Event.TheVariants.{SetChair}
use Rattle.floor_machine.proofs.Lawful.{lawful_event}
use Rattle.floor_machine.proofs.Tried.{may_unsent, tried-refused, whole_of-free}
use Rattle.floor_machine.proofs.machine.Machine.set_chair.Goals as goal

pub take-requires-clause-whole : goal.take-requires-clause-whole
take-requires-clause-whole c = whole_of-free c.args.self.now (SetChair c.args.floor c.args.chair) c.in-None.ensures

pub take-requires-clause-may : goal.take-requires-clause-may
take-requires-clause-may c =
    let m = c.args.self.now in
    may_unsent m.conference (SetChair c.args.floor c.args.chair) c.to.result (lawful_event m (SetChair c.args.floor c.args.chair) tt c.in-None.ensures) (refl, c.to.ensures)

pub returns-in-Some : goal.returns-in-Some
returns-in-Some c = record { tried = tried-refused c.args.self.now (SetChair c.args.floor c.args.chair) c.args.out.now.items c.args.changed.now.items c.in-Some.refusal c.requires c.in-Some.ensures }

pub returns-in-None : goal.returns-in-None
returns-in-None c = record { tried = c.take.ensures.tried (SetChair c.args.floor c.args.chair) (refl, c.to.ensures) tt c.in-None.ensures }
