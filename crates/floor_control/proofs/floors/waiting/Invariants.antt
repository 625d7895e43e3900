use Rattle.std.proofs.Common.{◌≡◌, string_bytes}
use Rattle.floor_control.specs.Floors.{waiting_up_to}
use Rattle.floor_control.proofs.floors.waiting.Given as goal

-- those that wait at the positions up to this one stand there
abbrev pub invariant-loop-before : goal.invariant-loop-before
invariant-loop-before l = string_bytes l.words ≡ waiting_up_to l.before l.entries
