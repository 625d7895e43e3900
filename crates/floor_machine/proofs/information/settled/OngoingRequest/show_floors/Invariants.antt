use Rattle.std.proofs.Common.{◌≡◌, take, map}
use Rattle.floor_machine.specs.Shown.{entry_of, floor_shown}
use Rattle.floor_machine.proofs.information.settled.OngoingRequest.show_floors.Given as goal

abbrev pub invariant-loop-requested : goal.invariant-loop-requested
invariant-loop-requested l =
    l.shown.items ≡ map (floor_shown l.self.settled.requests.now.floors l.self.settled.requests.now.ongoing (entry_of l.self.request.now)) (take l.requested-index l.self.request.now.floors)
