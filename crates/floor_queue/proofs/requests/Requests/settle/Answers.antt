use Rattle.std.proofs.Common.{◌≡◌, ◌∙◌, ap, refl, ℕ, List}
use Rattle.std.specs.Prelude.{◌==◌, map}
use Rattle.std.specs.List.{list_any}
use Rattle.floor_queue.specs.declared.request.Request.{Request}
use Rattle.floor_queue.specs.Order.{settle, due_numbers, granted_if, is_due}
use Rattle.floor_queue.specs.Queue.{Queue}
use Rattle.floor_queue.proofs.Granting.{granted-due}
use Rattle.floor_queue.proofs.Kept.{IsQueue-settle, involves-granted_if, keeps_granted_if}
use Rattle.floor_queue.proofs.Parting.{AreParties-kept}
use Rattle.floor_queue.proofs.Lining.{AreLines-unmarked}
use Rattle.floor_queue.proofs.Marking.{AreMarked-settled}
use Rattle.floor_queue.proofs.Settling.{settle-settle}
use Rattle.floor_queue.proofs.requests.Requests.settle.Goals as goal

pub grant_all-requires : goal.grant_all-requires
grant_all-requires c = rw c.deref-2.ensures.value c.self.invariant.1

pub due_numbers-requires : goal.due_numbers-requires
due_numbers-requires c =
    rw c.deref.ensures.value record { ascending = c.self.invariant.0.ascending; lined = c.self.invariant.1; marks = c.self.invariant.2 }

-- the numbers that are due
due : (c : goal.After-from_vec) → c.in_ok-numbers.numbers.items ≡ due_numbers c.self.inside.floors.items c.self.inside.ongoing
due c = rw c.deref.ensures.value at c.in_ok-numbers.ensures

-- the requests inside after the grants
made : (c : goal.After-from_vec) → c.grant_all.new.requests ≡ settle c.self.inside.floors.items c.self.inside.ongoing
made c =
    c.grant_all.ensures.next
    ∙ ap (λ (ns : List ℕ). map (λ (r : Request). granted_if (list_any (λ n. n == r.number) ns) r) c.self.inside.ongoing) (c.deref-3.ensures.value ∙ due c)
    ∙ granted-due c.self.inside.floors.items c.self.inside.ongoing c.self.invariant.0.ascending

pub invariant_of-self : goal.invariant_of-self
invariant_of-self c = (
  rw (made c) (IsQueue-settle record { floors = c.self.inside.floors.items; given = c.self.inside.given; ongoing = c.self.inside.ongoing } c.self.invariant.0),
  rw c.unmark.ensures (AreLines-unmarked c.self.inside.floors.items c.grant_all.new.requests c.grant_all.new.lines (rw c.deref-2.ensures.value at c.grant_all.ensures.lines)),
  AreMarked-settled c.self.inside.floors.items c.grant_all.new.requests c.unmark.new.self (rw (made c) (settle-settle c.self.inside.floors.items c.self.inside.ongoing)),
  rw (made c)
      (AreParties-kept (λ (r : Request). granted_if (is_due c.self.inside.floors.items c.self.inside.ongoing r) r)
      ((keeps_granted_if (is_due c.self.inside.floors.items c.self.inside.ongoing)).number) (λ r. involves-granted_if (is_due c.self.inside.floors.items c.self.inside.ongoing r) r)
      c.self.inside.ongoing c.self.inside.parties c.self.invariant.3),
)

pub returns-clause-granted : goal.returns-clause-granted
returns-clause-granted c = c.from_vec.ensures ∙ due c ∙ ap (λ (q : Queue). due_numbers q.floors q.ongoing) c.self.view_is

pub returns-clause-next : goal.returns-clause-next
returns-clause-next c = rw (← c.self.view_is, made c) refl

pub returns-clause-settled : goal.returns-clause-settled
returns-clause-settled c = rw (made c) (settle-settle c.self.inside.floors.items c.self.inside.ongoing)
