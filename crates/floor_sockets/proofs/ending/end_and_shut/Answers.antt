use Rattle.floor_sockets.proofs.Stopping.{begins}
use Rattle.floor_sockets.proofs.ending.end_and_shut.Goals as goal

pub shut_what_is_due-requires : goal.shut_what_is_due-requires
shut_what_is_due-requires c =
    begins c.args.slot c.args.now c.args.sockets.now c.end.new.self c.time.new.self c.requires.goes_on c.requires.there c.requires.late c.end.ensures.took c.time.ensures.next
