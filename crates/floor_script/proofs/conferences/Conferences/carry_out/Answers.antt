use Rattle.std.proofs.Common.{◌≡◌, List, ℕ, ap, sym, ◌∙◌}
use Rattle.floor_script.specs.declared.line.Command.TheVariants.{Piece, Say, Send}
use Rattle.floor_script.proofs.Holding.{ok_as}
use Rattle.floor_script.proofs.Standing.{carries_as, carries_fast, carries_slow}
use Rattle.floor_script.proofs.conferences.Conferences.carry_out.Goals as goal

pub returns-in-Attach : goal.returns-in-Attach
returns-in-Attach c = record { took = ok_as c.attach.result _ _ c.attach.ensures.took (λ answer k. carries_as _ _ answer _ _ c.in-Attach.is k) }

pub returns-in-Serve : goal.returns-in-Serve
returns-in-Serve c = record { took = ok_as c.serve.result _ _ c.serve.ensures.took (λ answer k. carries_as _ _ answer _ _ c.in-Serve.is k) }

pub returns-in-Leave : goal.returns-in-Leave
returns-in-Leave c = record { took = ok_as c.leave.result _ _ c.leave.ensures.took (λ answer k. carries_as _ _ answer _ _ c.in-Leave.is k) }

pub returns-in-Admin : goal.returns-in-Admin
returns-in-Admin c = record { took = ok_as c.admin.result _ _ c.admin.ensures.took (λ answer k. carries_as _ _ answer _ _ c.in-Admin.is k) }

pub returns-in-Piece : goal.returns-in-Piece
returns-in-Piece c =
    let is = c.in-Piece.is ∙ ap (λ (bytes : List ℕ). Piece c.in-Piece.connection bytes) (sym c.as_slice.ensures) in
    record { took = ok_as c.piece.result _ _ c.piece.ensures.took (λ answer k. carries_as _ _ answer _ _ is k) }

pub returns-in-Send : goal.returns-in-Send
returns-in-Send c =
    let is = c.in-Send.is ∙ ap (λ (bytes : List ℕ). Send c.in-Send.connection bytes) (sym c.as_slice-in-Send.ensures) in
    record { took = ok_as c.send.result _ _ c.send.ensures.took (λ answer k. carries_as _ _ answer _ _ is k) }

pub returns-in-Slow : goal.returns-in-Slow
returns-in-Slow c = record { took = carries_as _ _ _ _ _ c.in-Slow.is (carries_slow c.in-Slow.connection c.set_pace.result _ _ c.set_pace.ensures.took) }

pub returns-in-Fast : goal.returns-in-Fast
returns-in-Fast c = record { took = carries_as _ _ _ _ _ c.in-Fast.is (carries_fast c.in-Fast.connection c.set_pace-in-Fast.result _ _ c.set_pace-in-Fast.ensures.took) }

pub returns-in-Say : goal.returns-in-Say
returns-in-Say c =
    let is = c.in-Say.is ∙ ap (λ (bytes : List ℕ). Say c.in-Say.conference c.in-Say.user bytes) (sym c.as_slice-in-Say.ensures) in
    record { took = ok_as c.say.result _ _ c.say.ensures.took (λ answer k. carries_as _ _ answer _ _ is k) }
