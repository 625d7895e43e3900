use Rattle.std.proofs.Common.{◌≡◌, ◌++◌, drop}
use Rattle.floor_hub.specs.Runs.{answers, run}
use Rattle.floor_hub.specs.steps.Running.{IsRunning}
use Rattle.floor_hub.specs.World.{World, nothing}
use Rattle.floor_hub.proofs.running.run.Given as goal

-- the hub stands for a world from which the steps that are left give the answers that are left, and lead to the same end
abbrev pub invariant-loop-item : goal.invariant-loop-item
invariant-loop-item l =
    (w : World) × IsRunning l.hub l.places.items w
    × (l.answers.items ++ answers w (drop l.item-index l.steps) ≡ answers nothing l.steps)
    × (run w (drop l.item-index l.steps) ≡ run nothing l.steps)
