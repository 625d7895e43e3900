use Rattle.std.proofs.Common.{◌≡◌, length, map, take}
use Rattle.floor_hub.specs.Runs.{queues_from}
use Rattle.floor_hub.specs.steps.Running.{IsRunning, place_of}
use Rattle.floor_hub.specs.World.{World}
use Rattle.floor_hub.proofs.running.entries.Given as goal

-- the entries of the places so far
abbrev pub invariant-loop-place : goal.invariant-loop-place
invariant-loop-place l =
    ((w : World) → IsRunning l.hub l.places w → l.entries.items ≡ queues_from w.parts 1 (map place_of (take l.place-index l.places)))
    × (length l.entries.items ≡ l.place-index)
