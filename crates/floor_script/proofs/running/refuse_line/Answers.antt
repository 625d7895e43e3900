use Rattle.std.proofs.KnownBytes.{Appends-nil}
use Rattle.floor_script.proofs.Printing.{leaves_line}
use Rattle.floor_script.proofs.running.refuse_line.Goals as goal

pub returns-in-Memory : goal.returns-in-Memory
returns-in-Memory g c = λ conferences loud read. Appends-nil _

pub returns-in_default : goal.returns-in_default
returns-in_default g c = leaves_line c.refuse.result c.args.line.number c.args.line.text.now c.args.fault c.name-name.result.now _ _ c.in_default.not-Memory c.name-name.ensures.value c.refuse.ensures
