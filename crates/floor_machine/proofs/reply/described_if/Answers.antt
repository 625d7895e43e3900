use Rattle.std.proofs.Common.{subst, sym}
use Rattle.floor_message.specs.Shown.{IsDescribed}
use Rattle.floor_machine.proofs.Fitting.{described_fits}
use Rattle.floor_machine.proofs.reply.described_if.Goals as goal

pub returns-in_ok-described-in-Some-clause-shown : goal.returns-in_ok-described-in-Some-clause-shown
returns-in_ok-described-in-Some-clause-shown c =
    subst IsDescribed (sym c.in_ok-described-in-Some.ensures.value) (described_fits c.args.config.now c.in-Some.user c.in_ok-described-in-Some.ensures.kept c.in_ok-described-in-Some.ensures.range)
