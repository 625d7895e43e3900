use Rattle.std.proofs.KnownBytes.{Appends-nil}
use Rattle.floor_script.proofs.Growing.{began_none}
use Rattle.floor_script.proofs.Outcomes.{leaves_configuration}
use Rattle.floor_script.proofs.running.refuse_configuration.Goals as goal

pub returns-in-Memory : goal.returns-in-Memory
returns-in-Memory g c = λ text fails. began_none _ _ _ (Appends-nil _)

pub returns-in_default : goal.returns-in_default
returns-in_default g c = leaves_configuration c.refuse.result c.args.fault c.name-name.result.now _ _ c.in_default.not-Memory c.name-name.ensures c.refuse.ensures
