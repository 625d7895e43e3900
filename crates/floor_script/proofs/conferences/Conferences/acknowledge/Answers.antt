use Rattle.std.proofs.Common.{refl}
use Rattle.floor_script.proofs.Holding.{on_ok}
use Rattle.floor_script.proofs.Standing.{leads_told}
use Rattle.floor_script.proofs.conferences.Conferences.acknowledge.Goals as goal

pub returns : goal.returns
returns c = record { took = on_ok c.acknowledge_in.result _ _ c.acknowledge_in.ensures.took (λ a. leads_told c.args.taken.now _ _ a refl) }
