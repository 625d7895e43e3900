use Rattle.std.proofs.Common.{◌≡◌, ◌++◌, length}
use Rattle.floor_machine.specs.steps.Marks.{KeepsNoted}
use Rattle.floor_machine.specs.steps.Serving.{after_release_for, released_for}
use Rattle.floor_machine.proofs.change.membership.release_all_for.Given as goal

abbrev pub invariant-loop-request : goal.invariant-loop-request
invariant-loop-request l = record {
  next : after_release_for l.requests l.beneficiary ≡ after_release_for l.fn.requests l.beneficiary;
  told : l.ended.items ++ released_for l.requests l.beneficiary ≡ l.fn.ended.items ++ released_for l.fn.requests l.beneficiary;
  noted : KeepsNoted l.fn.requests.ongoing l.fn.marks.items l.requests.ongoing l.marks.items;
}

abbrev pub decreases-loop-request : goal.decreases-loop-request
decreases-loop-request l = length l.requests.ongoing
