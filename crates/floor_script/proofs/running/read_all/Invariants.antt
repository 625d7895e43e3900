use Rattle.std.specs.Io.KnownBytes.{Consumes}
use Rattle.floor_script.proofs.running.read_all.Given as goal

-- so many bytes were read
abbrev pub invariant-loop : goal.invariant-loop
invariant-loop g l = Consumes (g.R.Read.remaining l.fn.input) (g.R.Read.remaining l.input) l.bytes.items
