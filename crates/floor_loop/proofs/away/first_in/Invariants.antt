use Rattle.std.proofs.Common.{◌≡◌, Some, nat_eq}
use Rattle.std.specs.Prelude.{IfSome}
use Rattle.indexmap.specs.IndexMap.{get}
use Rattle.floor_loop.specs.steps.Soonest.{end_of, soonest_to}
use Rattle.floor_loop.proofs.away.first_in.Given as goal

-- the one of those before this place that is over first
abbrev pub invariant-loop-place : goal.invariant-loop-place
invariant-loop-place l =
    record {
      is : l.first ≡ soonest_to l.stays.entries l.place;
      found : IfSome l.first (λ e. end_of (get nat_eq l.stays) e.number ≡ Some e.time);
    }
