use Rattle.floor_wire.proofs.Viewed.{front_sound, front_is_long}
use Rattle.floor_wire.proofs.view.its_front_is_whole.Goals as goal

pub returns-clause-head : goal.returns-clause-head
returns-clause-head c = (front_sound c.args.bytes.now c.requires.some c.requires.spelled).two

pub returns-clause-len : goal.returns-clause-len
returns-clause-len c = front_is_long c.args.bytes.now (front_sound c.args.bytes.now c.requires.some c.requires.spelled)

pub returns-clause-end : goal.returns-clause-end
returns-clause-end c = (front_sound c.args.bytes.now c.requires.some c.requires.spelled).whole
