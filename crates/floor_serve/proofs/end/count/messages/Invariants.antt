use Rattle.std.proofs.Common.{◌≡◌, ◌≤◌, take}
use Rattle.floor_serve.specs.steps.Parts.{messages_in}
use Rattle.floor_serve.proofs.end.count.messages.Given as goal

abbrev pub invariant-loop-event : goal.invariant-loop-event
invariant-loop-event l = record {
  count : l.count ≡ messages_in (take l.event-index l.journal);
  few : l.count ≤ l.event-index;
}
