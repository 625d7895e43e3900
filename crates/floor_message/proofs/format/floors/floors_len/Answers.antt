use Rattle.std.proofs.Common.{sym}
use Rattle.floor_message.proofs.Puts.{length-numbers}
use Rattle.floor_message.proofs.format.floors.floors_len.Goals as goal

pub returns-clause-value : goal.returns-clause-value
returns-clause-value c = sym (length-numbers c.args.floors.now)
