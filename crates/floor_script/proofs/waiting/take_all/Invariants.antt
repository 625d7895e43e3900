use Rattle.std.proofs.Common.{take}
use Rattle.std.specs.Prelude.{string_bytes}
use Rattle.floor_script.specs.Printed.{fast_of}
use Rattle.floor_script.specs.steps.Taking.{EmptiesAll}
use Rattle.floor_script.proofs.waiting.take_all.Given as goal

-- what waits for so many connections was taken
abbrev pub invariant-loop-live : goal.invariant-loop-live
invariant-loop-live l = EmptiesAll l.conference (fast_of (take l.live-index l.lives)) l.initial.hub l.hub l.initial.taken.items l.taken.items (string_bytes l.initial.text) (string_bytes l.text)
