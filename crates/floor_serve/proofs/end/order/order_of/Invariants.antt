use Rattle.std.proofs.Common.{ℕ, ◌<◌, get_or}
use Rattle.floor_serve.specs.Seat.{Seat}
use Rattle.floor_serve.specs.steps.Ascending.{IsBefore}
use Rattle.floor_serve.proofs.end.order.order_of.Given as goal

abbrev pub invariant-loop-at : goal.invariant-loop-at
invariant-loop-at l = (i j : ℕ) (d : Seat) → i < j → j < l.at → IsBefore (get_or l.seats i d) (get_or l.seats j d)
