use Rattle.std.proofs.Common.{◌≡◌, ◌++◌, take}
use Rattle.floor_machine.specs.Journal.{IsLawfulFrom, parcels_from}
use Rattle.floor_machine.specs.Machine.{machine_after}
use Rattle.floor_machine.proofs.machine.Machine.run.Given as goal

abbrev pub invariant-loop-done : goal.invariant-loop-done
invariant-loop-done l = record {
  next : l.self ≡ machine_after l.fn.self (take l.done l.events);
  out : l.out.items ≡ l.fn.out.items ++ parcels_from l.fn.self.conference (take l.done l.events);
  lawful : IsLawfulFrom l.fn.self.conference (take l.done l.events);
}
