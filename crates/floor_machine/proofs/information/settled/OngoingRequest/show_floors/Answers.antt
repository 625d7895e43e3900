use Rattle.floor_machine.proofs.Found.{names_in}
use Rattle.floor_machine.proofs.information.settled.OngoingRequest.show_floors.Goals as goal

pub floor_shown-requires : goal.floor_shown-requires
floor_shown-requires c =
    names_in c.args.self.now.request.now.floors c.as_slice-requested-items.result.now c.loop-requested.requested-index _ c.as_slice-requested-items.ensures c.loop-requested-test.true
