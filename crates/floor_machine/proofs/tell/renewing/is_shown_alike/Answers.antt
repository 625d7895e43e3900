use Rattle.floor_machine.proofs.SameInfo.{same_as}
use Rattle.floor_machine.proofs.tell.renewing.is_shown_alike.Goals as goal

pub returns : goal.returns
returns c = same_as c.is_same.result c.args.before.now c.args.now.now c.is_same.ensures.value
