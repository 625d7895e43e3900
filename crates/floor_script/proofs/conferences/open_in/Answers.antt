use Rattle.std.proofs.Common.{sym, ◌∙◌}
use Rattle.floor_script.proofs.Holding.{opened_did, opened_refused}
use Rattle.floor_script.proofs.conferences.open_in.Goals as goal

pub returns-in-Ok : goal.returns-in-Ok
returns-in-Ok c = record { took = opened_did c.args.config _ _ c.in-Ok.ensures.next c.in-Ok.ensures.took }

pub returns-else-is_memory : goal.returns-else-is_memory
returns-else-is_memory c =
    record { took = opened_refused c.args.config c.in-Err.refusal _ _ c.in-Err.ensures.next c.in-Err.ensures.left (sym c.is_memory.ensures.value ∙ c.if-is_memory.false) }
