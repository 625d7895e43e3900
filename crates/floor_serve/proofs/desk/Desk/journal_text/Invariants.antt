use Rattle.std.proofs.Common.{◌-◌, string_bytes}
use Rattle.floor_serve.proofs.Pieces.{IsBegun}
use Rattle.floor_serve.proofs.desk.Desk.journal_text.Given as goal

abbrev pub invariant-loop-done : goal.invariant-loop-done
invariant-loop-done g l = IsBegun (string_bytes l.text) l.done

abbrev pub decreases-loop-done : goal.decreases-loop-done
decreases-loop-done g l = l.count - l.done
