use Rattle.std.proofs.Common.{◌∙◌}
use Rattle.floor_machine.proofs.Watchers.{any-watching}
use Rattle.floor_machine.proofs.tell.watching.is_watched.Goals as goal

pub returns : goal.returns
returns c = c.is_seen_by_any.ensures ∙ any-watching c.args.floor c.args.members.now _ c.watching.ensures.kept c.watching.ensures.value
