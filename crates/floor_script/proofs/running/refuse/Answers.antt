use Rattle.std.proofs.Common.{◌∙◌}
use Rattle.std.proofs.KnownBytes.{Appends-nil}
use Rattle.floor_script.proofs.Printing.{refuse_as}
use Rattle.floor_script.proofs.running.refuse.Goals as goal

pub returns-in_default : goal.returns-in_default
returns-in_default g c = Appends-nil _

pub returns : goal.returns
returns g c = refuse_as c.print_refusal.result _ _ _ _ (c.as_str.ensures.value ∙ c.in-Ok.ensures) c.print_refusal.ensures
