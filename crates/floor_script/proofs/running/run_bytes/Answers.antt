use Rattle.std.proofs.KnownBytes.{Appends-nil}
use Rattle.floor_script.proofs.Reading.{leaves_bytes}
use Rattle.floor_script.proofs.running.run_bytes.Goals as goal

pub returns-in-Ok : goal.returns-in-Ok
returns-in-Ok g c = leaves_bytes c.run_text.result c.in-Ok.text.now c.args.bytes.now _ _ c.in-Ok.ensures.cases.0 c.run_text.ensures

pub returns-in-Err : goal.returns-in-Err
returns-in-Err g c = Appends-nil _
