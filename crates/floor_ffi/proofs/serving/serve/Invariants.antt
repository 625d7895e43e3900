use Rattle.floor_ffi.specs.Gives.{ServesOwn}
use Rattle.floor_ffi.proofs.serving.serve.Given as goal

-- so many messages were served, and concerned nobody else
abbrev pub invariant-loop-served : goal.invariant-loop-served
invariant-loop-served l = ServesOwn l.connection l.served l.fn.hub l.hub
