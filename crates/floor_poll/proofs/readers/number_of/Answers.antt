use Rattle.std.proofs.Common.{sym}
use Rattle.floor_poll.proofs.Standing.{stands-found}
use Rattle.floor_poll.proofs.readers.number_of.Goals as goal

pub returns-in-Some : goal.returns-in-Some
returns-in-Some c = record { found = stands-found c.args.n c.args.live.now c.in-Some.one.now (sym c.in-Some.ensures.value) }
