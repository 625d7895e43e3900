use Rattle.std.proofs.Common.{◌≡◌, ℕ, ◌+◌}
use Rattle.floor_script.specs.State.{most_at_once}
use Rattle.floor_script.proofs.Standing.{ServesOn}
use Rattle.floor_script.proofs.conferences.serve_all.Given as goal

-- so many messages were served
abbrev pub invariant-loop-served : goal.invariant-loop-served
invariant-loop-served l = (fuel : ℕ) × (fuel + l.served ≡ most_at_once) × ServesOn fuel most_at_once l.connection l.initial.hub l.hub
