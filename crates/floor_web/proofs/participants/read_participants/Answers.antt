use Rattle.std.proofs.Common.{rules}
use Rattle.floor_web.specs.Participants.{reading}
use Rattle.floor_web.proofs.Standing.{gives_users, gives_strong, gives_differ}
use Rattle.floor_web.proofs.participants.read_participants.Goals as goal

pub returns-clause-users : goal.returns-clause-users
unfolding reading
returns-clause-users c = gives_users c.args.text.now c.differing.result (search rules)

pub returns-clause-strong : goal.returns-clause-strong
unfolding reading
returns-clause-strong c = gives_strong c.args.text.now c.differing.result (search rules)

pub returns-clause-differ : goal.returns-clause-differ
unfolding reading
returns-clause-differ c = gives_differ c.args.text.now c.differing.result (search rules)
