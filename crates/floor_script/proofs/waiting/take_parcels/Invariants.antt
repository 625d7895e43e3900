use Rattle.std.specs.Prelude.{string_bytes}
use Rattle.floor_script.proofs.Emptying.{SoFar}
use Rattle.floor_script.proofs.waiting.take_parcels.Given as goal

-- so many parcels were taken
abbrev pub invariant-loop-taken : goal.invariant-loop-taken
invariant-loop-taken l = SoFar l.connection l.taken l.initial.hub l.hub (string_bytes l.initial.text) (string_bytes l.text)
