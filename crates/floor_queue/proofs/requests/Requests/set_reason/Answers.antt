use Rattle.std.proofs.Common.{subst, sym}
use Rattle.std.specs.Prelude.{IsSome}
use Rattle.floor_queue.specs.Queue.{Queue, MaySetFloor, request_at, with_reason}
use Rattle.floor_queue.proofs.Parting.{AreParties-kept}
use Rattle.floor_queue.proofs.Reasons.{AreLines-told, AreMarked-told, IsQueue-set_reason, IsSome-set_reason, MaySetFloor-set_reason, involves-with_reason, number-with_reason}
use Rattle.floor_queue.proofs.requests.Requests.set_reason.Goals as goal

pub set_reason-requires : goal.set_reason-requires
set_reason-requires c = subst (λ (q : Queue). IsSome (request_at q.ongoing c.args.request)) (sym c.self.view_is) c.requires.ongoing

pub invariant_of-self : goal.invariant_of-self
invariant_of-self c =
    let q : Queue = record { floors = c.self.inside.floors.items; given = c.self.inside.given; ongoing = c.self.inside.ongoing } in (
      rw c.set_reason.ensures (IsQueue-set_reason q c.args.request c.args.reason c.requires.text c.self.invariant.0),
      rw c.set_reason.ensures (AreLines-told q.floors c.args.request c.args.reason q.ongoing c.self.inside.lines c.self.invariant.1),
      rw c.set_reason.ensures (AreMarked-told q.floors c.args.request c.args.reason q.ongoing c.self.inside.lines c.self.invariant.2),
      rw c.set_reason.ensures
          (AreParties-kept (with_reason c.args.request c.args.reason) (number-with_reason c.args.request c.args.reason) (involves-with_reason c.args.request c.args.reason) q.ongoing c.self.inside.parties c.self.invariant.3),
    )

pub returns-clause-still_ongoing : goal.returns-clause-still_ongoing
returns-clause-still_ongoing c = λ other is.
    rw c.set_reason.ensures
    (IsSome-set_reason c.args.request c.args.reason c.self.inside.ongoing other (subst (λ (q : Queue). IsSome (request_at q.ongoing other)) (sym c.self.view_is) is))

pub returns-clause-still : goal.returns-clause-still
returns-clause-still c = λ other id may.
    let q : Queue = record { floors = c.self.inside.floors.items; given = c.self.inside.given; ongoing = c.self.inside.ongoing } in
    rw c.set_reason.ensures
    (MaySetFloor-set_reason q c.args.request c.args.reason other id (subst (λ (q : Queue). MaySetFloor q other id) (sym c.self.view_is) may))
