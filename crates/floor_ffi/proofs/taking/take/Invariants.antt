use Rattle.std.proofs.Common.{length}
use Rattle.floor_ffi.specs.steps.Taken.{TakesSome}
use Rattle.floor_ffi.proofs.taking.take.Given as goal

-- so many parcels were taken, and lie at the front of the room
abbrev pub invariant-loop-parcels : goal.invariant-loop-parcels
invariant-loop-parcels l = TakesSome l.fn.hub l.connection l.hub l.parcels l.len (length l.fn.room) l.room
