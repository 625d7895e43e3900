use Rattle.std.proofs.Common.{◌-◌, arith}
use Rattle.floor_machine.proofs.Live.{place-below, place-beyond, place-within}
use Rattle.floor_machine.proofs.joined.Joined.place_of.Goals as goal

pub returns-then-n-eq0 : goal.returns-then-n-eq0
returns-then-n-eq0 c = omega (arith, place-below c.args.self.now.members.items 1 c.args.n c.args.self.now.numbered (omega arith))

pub returns-then-place-len : goal.returns-then-place-len
returns-then-place-len c = omega (arith, place-within c.args.self.now.members.items 1 c.args.n (c.args.n - 1) c.args.self.now.numbered (omega arith) (omega arith))

pub returns-else-place-len : goal.returns-else-place-len
returns-else-place-len c = omega (arith, place-beyond c.args.self.now.members.items 1 c.args.n c.args.self.now.numbered (omega arith))
