use Rattle.std.proofs.Common.{length}
use Rattle.floor_ffi.specs.steps.Lines.{PutsSome}
use Rattle.floor_ffi.proofs.reading.put_lines.Given as goal

-- so many lines lie at the front of the room
abbrev pub invariant-loop-added : goal.invariant-loop-added
invariant-loop-added l = PutsSome l.events l.done l.added l.len (length l.fn.room) l.room
