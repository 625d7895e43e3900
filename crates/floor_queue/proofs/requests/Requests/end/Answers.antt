use Rattle.std.proofs.Common.{sym, subst, refl, length, map}
use Rattle.std.specs.Prelude.{IsSome, nat_lt}
use Rattle.floor_queue.specs.Queue.{Queue, request_at, without}
use Rattle.floor_queue.specs.steps.Lines.{rank_of, taken}
use Rattle.floor_queue.proofs.Firsts.{some_floors}
use Rattle.floor_queue.proofs.Kept.{IsQueue-end}
use Rattle.floor_queue.proofs.Lining.{AreLines-ended, AreLines-marked}
use Rattle.floor_queue.proofs.Marking.{AreMarked-ended}
use Rattle.floor_queue.proofs.Parting.{AreParties-ended}
use Rattle.floor_queue.proofs.Places.{among_found}
use Rattle.floor_queue.proofs.requests.Requests.end.Goals as goal

pub end-ended-requires : goal.end-ended-requires
end-ended-requires c = subst (λ (q : Queue). IsSome (request_at q.ongoing c.args.request)) (sym c.self.view_is) c.requires

pub invariant_of-self : goal.invariant_of-self
invariant_of-self c = (
  rw c.end-ended.ensures.next
      (IsQueue-end record { floors = c.self.inside.floors.items; given = c.self.inside.given; ongoing = c.self.inside.ongoing } c.args.request c.self.invariant.0),
  rw (c.end-ended.ensures.next, c.mark.ensures, c.take.ensures, c.rank_of-rank.ensures, c.deref.ensures.value)
      (AreLines-marked c.self.inside.floors.items (without c.args.request c.self.inside.ongoing) c.end-ended.result
      (map (taken c.end-ended.result (rank_of c.self.inside.floors.items c.end-ended.result)) c.self.inside.lines)
      (AreLines-ended c.self.inside.floors.items c.self.inside.ongoing c.args.request c.end-ended.result c.self.inside.lines c.self.invariant.0.ascending c.end-ended.ensures.ended c.self.invariant.1)),
  rw (c.end-ended.ensures.next, c.mark.ensures, c.take.ensures)
      (AreMarked-ended c.self.inside.floors.items c.args.request c.self.inside.ongoing c.self.inside.lines c.end-ended.result c.rank_of-rank.result c.self.invariant.0.ascending c.end-ended.ensures.ended
      (among_found c.self.inside.ongoing c.args.request c.end-ended.result c.end-ended.ensures.ended (λ r. nat_lt 0 (length r.floors)) (some_floors record { floors = c.self.inside.floors.items; given = c.self.inside.given; ongoing = c.self.inside.ongoing } c.self.invariant.0)) c.self.invariant.1 c.self.invariant.2),
  rw (c.end-ended.ensures.next, c.end.ensures) (AreParties-ended c.self.inside.ongoing c.args.request c.self.inside.parties c.self.invariant.3),
)

pub returns-clause-ended : goal.returns-clause-ended
returns-clause-ended c = rw (← c.self.view_is) (c.end-ended.ensures.ended)

pub returns-clause-next : goal.returns-clause-next
returns-clause-next c = rw (← c.self.view_is, c.end-ended.ensures.next) refl
