use Rattle.floor_machine.specs.steps.Serving.{conference_of}
use Rattle.floor_machine.proofs.Allowed.{details_decided, may_decided}
use Rattle.floor_machine.proofs.conference.State.decide_ask.Goals as goal

pub returns-clause-may : goal.returns-clause-may
returns-clause-may c = may_decided (conference_of c.args.self.now) c.args.sender.now.n c.args.sender.now.user c.args.ask c.by_primitive.result c.requires c.by_primitive.ensures.value

pub returns-clause-details : goal.returns-clause-details
returns-clause-details c = details_decided (conference_of c.args.self.now) c.args.sender.now.n c.args.sender.now.user c.args.ask c.by_primitive.result c.by_primitive.ensures.value
