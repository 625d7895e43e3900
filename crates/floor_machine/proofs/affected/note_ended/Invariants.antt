use Rattle.std.proofs.Common.{◌≡◌, ◌++◌, map, take}
use Rattle.floor_machine.proofs.affected.note_ended.Given as goal

abbrev pub invariant-loop-end : goal.invariant-loop-end
invariant-loop-end l = l.numbers.items ≡ l.fn.numbers.items ++ map (λ d. d.request.number) (take l.end-index l.ended)
