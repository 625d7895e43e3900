use Rattle.std.proofs.Common.{◌≡◌, take}
use Rattle.floor_loop.proofs.same.are_same.Given as goal

-- those before this place are the same
abbrev pub invariant-loop-place : goal.invariant-loop-place
invariant-loop-place l = take l.place l.journal ≡ take l.place l.events
