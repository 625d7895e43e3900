use Rattle.std.specs.Prelude.{None}
use Rattle.floor_keep.proofs.Gathered.{port_next}
use Rattle.floor_keep.proofs.found.port_in.Goals as goal

pub loop-note-preserved : goal.loop-note-preserved
loop-note-preserved c =
    port_next None c.args.user c.args.notes.now c.loop-note.note-index c.note-item.result _ _ c.loop-note-test.true c.note-item.is c.loop-note.invariant c.port_noted-found.ensures
