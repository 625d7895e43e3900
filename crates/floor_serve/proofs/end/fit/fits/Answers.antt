use Rattle.std.proofs.Common.{◌≤◌, length, arith}
use Rattle.floor_serve.proofs.Matching.{answers}
use Rattle.floor_serve.proofs.end.fit.fits.Goals as goal

pub returns : goal.returns
returns c =
    let past : length c.args.journal.now ≤ c.loop-done.done = omega (arith, c.loop-done-test.false) in
    answers c.args.sent.now c.loop-done.at c.args.journal.now c.loop-done.done c.args.n past c.loop-done.invariant
