use Rattle.std.proofs.Common.{◌≤◌, ◌*◌, take}
use Rattle.floor_serve.specs.steps.First.{AllFound}
use Rattle.floor_serve.specs.steps.Slots.{numbers}
use Rattle.floor_serve.proofs.end.finish.look_all.Given as goal

abbrev pub invariant-loop-slot : goal.invariant-loop-slot
invariant-loop-slot g l = record {
  found : AllFound (numbers (take l.slot-index l.slots)) l.seats l.events l.unfit;
  few : l.events ≤ 2000000 * l.slot-index;
}
