use Rattle.std.proofs.Common.{refl}
use Rattle.floor_script.proofs.Holding.{ok_as}
use Rattle.floor_script.proofs.Standing.{carries_admin}
use Rattle.floor_script.proofs.conferences.Conferences.admin.Goals as goal

pub returns : goal.returns
returns c = record { took = ok_as c.admin_in.result _ _ c.admin_in.ensures.took (λ answer a. carries_admin c.args.conference c.args.act answer _ _ a refl) }
