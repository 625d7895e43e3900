use Rattle.std.proofs.Common.{length}
use Rattle.floor_datagram.proofs.Carrying.{took-carried}
use Rattle.floor_datagram.proofs.requests.Requests.datagram.Goals as goal

pub returns-clause-carried : goal.returns-clause-carried
returns-clause-carried c =
    took-carried c.take.result c.args.self.now c.take.new.self (length c.args.up.now.items) c.args.now c.args.datagram.now c.args.up.now.items c.take.new.up.items
    c.args.down.now.items c.take.new.down.items c.requires c.take.ensures.took
