use Rattle.std.proofs.Common.{refl}
use Rattle.floor_script.proofs.Printing.{leaves_text}
use Rattle.floor_script.proofs.running.print_refusal.Goals as goal

pub returns-in-Ok : goal.returns-in-Ok
returns-in-Ok g c = c.in-Ok.ensures

pub returns-in-Err : goal.returns-in-Err
returns-in-Err g c = leaves_text c.in-Err.fault c.args.text.now c.args.text.now _ _ refl c.in-Err.ensures
