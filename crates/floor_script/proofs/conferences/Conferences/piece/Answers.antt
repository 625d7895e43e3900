use Rattle.std.proofs.Common.{refl}
use Rattle.floor_script.proofs.Holding.{ok_as}
use Rattle.floor_script.proofs.Standing.{carries_piece}
use Rattle.floor_script.proofs.conferences.Conferences.piece.Goals as goal

pub returns : goal.returns
returns c = record { took = ok_as c.piece_in.result _ _ c.piece_in.ensures.took (λ answer a. carries_piece c.args.connection c.args.bytes.now answer _ _ a refl) }
