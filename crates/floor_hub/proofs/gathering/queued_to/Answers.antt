use Rattle.std.proofs.Common.{Ok}
use Rattle.floor_hub.proofs.Waiting.{queued_nobody, queued_there}
use Rattle.floor_hub.proofs.gathering.queued_to.Goals as goal

pub returns-in-None : goal.returns-in-None
returns-in-None c = record { value = queued_nobody c.args.room.now c.args.n (Ok c.from_vec.result) c.journal-journal.ensures.kept c.in-None.ensures.value }

pub returns-in-Some : goal.returns-in-Some
returns-in-Some c = record {
  value = queued_there c.args.room.now c.args.n c.in-Some.held.now.items c.held_bytes.result c.journal-journal.ensures.kept c.in-Some.ensures.value c.held_bytes.ensures;
}
