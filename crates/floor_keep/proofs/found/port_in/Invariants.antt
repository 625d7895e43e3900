use Rattle.std.proofs.Common.{◌≡◌, take}
use Rattle.std.specs.Prelude.{None}
use Rattle.floor_keep.specs.Found.{port_behind}
use Rattle.floor_keep.proofs.found.port_in.Given as goal

-- the port behind the notes so far
abbrev pub invariant-loop-note : goal.invariant-loop-note
invariant-loop-note l = l.found ≡ port_behind None l.user (take l.note-index l.notes)
