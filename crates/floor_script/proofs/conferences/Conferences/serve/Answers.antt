use Rattle.std.proofs.Common.{refl}
use Rattle.floor_script.proofs.Holding.{ok_as}
use Rattle.floor_script.proofs.Standing.{carries_serve}
use Rattle.floor_script.proofs.conferences.Conferences.serve.Goals as goal

pub returns : goal.returns
returns c = record { took = ok_as c.serve_in.result _ _ c.serve_in.ensures.took (λ answer a. carries_serve c.args.connection answer _ _ a refl) }
