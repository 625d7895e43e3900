use Rattle.std.proofs.Common.{◌≡◌, ◌++◌, length}
use Rattle.floor_wire.specs.Message.{messages, rest}
use Rattle.floor_datagram.proofs.session.take_messages.Given as goal

abbrev pub invariant-loop-taken : goal.invariant-loop-taken
invariant-loop-taken l = record {
  taken : messages l.initial.stream ≡ l.taken.items ++ messages l.stream;
  left : rest l.stream ≡ rest l.initial.stream;
}

abbrev pub decreases-loop-taken : goal.decreases-loop-taken
decreases-loop-taken l = length l.stream
