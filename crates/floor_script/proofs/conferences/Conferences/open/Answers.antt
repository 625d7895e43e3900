use Rattle.std.proofs.Common.{refl}
use Rattle.floor_script.proofs.Holding.{on_ok}
use Rattle.floor_script.proofs.Standing.{leads_open}
use Rattle.floor_script.proofs.conferences.Conferences.open.Goals as goal

pub returns : goal.returns
returns c = record { took = on_ok c.open_in.result _ _ c.open_in.ensures.took (λ opened. leads_open c.args.config _ _ opened refl) }
