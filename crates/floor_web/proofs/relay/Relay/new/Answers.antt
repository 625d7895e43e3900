use Rattle.floor_web.proofs.Carried.{relayed-new}
use Rattle.floor_web.proofs.relay.Relay.new.Goals as goal

pub returns-clause-carried : goal.returns-clause-carried
returns-clause-carried c = rw (c.new-2.ensures.items, c.new-3.ensures) relayed-new
