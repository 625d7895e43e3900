use Rattle.std.proofs.Common.{◌∙◌}
use Rattle.floor_threads.proofs.Seats.{same_conference}
use Rattle.floor_threads.proofs.connection.attend.Goals as goal

pub leave-gone-requires : goal.leave-gone-requires
leave-gone-requires g c = same_conference _ _ _ _ _ _ _ c.read_loop-end.ensures.after ∙ c.requires.seat
