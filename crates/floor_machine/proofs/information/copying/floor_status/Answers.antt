use Rattle.std.proofs.Common.{◌∙◌, subst, sym, arith}
use Rattle.floor_message.specs.Shown.{AreShown}
use Rattle.floor_machine.proofs.Fitting.{infos_on_fit}
use Rattle.floor_machine.proofs.information.copying.floor_status.Goals as goal

pub returns-clause-shown : goal.returns-clause-shown
returns-clause-shown c =
    (omega arith, subst AreShown (sym (c.from_vec.ensures ∙ c.in_ok-infos.ensures)) (infos_on_fit c.args.floor c.args.now.now c.requires))
