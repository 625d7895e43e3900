use Rattle.std.proofs.Common.{refl}
use Rattle.floor_poll.proofs.worker.Worker.member_lines.Goals as goal

pub returns : goal.returns
returns g c = record { found = λ r is. rw (c.in_ok-add_end_at.ensures, c.in_ok-add_members.ensures.found r is, c.next_place.ensures.value r is, c.new-text.ensures.bytes) refl }
