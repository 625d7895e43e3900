use Rattle.std.proofs.Common.{◌≡◌, ◌==◌, ◌∙◌, ◌+◌, ◌≤◌, Some, ap, arith, false, refl, subst, sym, true}
use Rattle.std.specs.Prelude.{IsSome, find}
use Rattle.floor_queue.specs.Order.{ahead, holders, waits}
use Rattle.floor_queue.specs.Queue.{Queue, IsSettled, position_of, request_at}
use Rattle.floor_queue.specs.steps.Lines.{place_in, rank_of}
use Rattle.floor_queue.proofs.Changing.{IsPlaced, is_placed}
use Rattle.floor_queue.proofs.Lining.{has_line}
use Rattle.floor_queue.proofs.Places.{among_found, position_fits}
use Rattle.floor_queue.proofs.requests.Requests.position_of.Goals as goal

abbrev queue : goal.After-holders → Queue
queue c = record { floors = c.self.inside.floors.items; given = c.self.inside.given; ongoing = c.self.inside.ongoing }

found : (c : goal.After-holders) → request_at c.self.inside.ongoing c.args.request.now.number ≡ Some c.args.request.now
found c = subst (λ (q : Queue). request_at q.ongoing c.args.request.now.number ≡ Some c.args.request.now) (sym c.self.view_is) c.requires.ongoing

it_waits : (c : goal.After-holders) → waits c.args.request.now ≡ true
it_waits c = sym c.waits.ensures ∙ c.if-not-waits.false

value : (c : goal.After-holders) → position_of c.args.self.now c.args.request.now.number c.args.floor ≡ 1 + ahead c.self.inside.floors.items c.self.inside.ongoing c.args.request.now c.args.floor
value c =
    ap (λ (q : Queue). position_of q c.args.request.now.number c.args.floor) (sym c.self.view_is)
    ∙ rw (found c, it_waits c) refl

fits : (c : goal.After-holders) → 1 + ahead c.self.inside.floors.items c.self.inside.ongoing c.args.request.now c.args.floor ≤ 255
fits c =
    rw (it_waits c) at
    (position_fits (queue c) c.self.invariant.0 (subst IsSettled (sym c.self.view_is) c.requires.settled) c.args.request.now (among_found c.self.inside.ongoing c.args.request.now.number c.args.request.now (found c)) c.args.floor)

placed : (c : goal.After-holders) → IsPlaced c.self.inside.floors.items c.self.inside.ongoing c.args.request.now c.args.floor c.in-Some.line.now
placed c =
    is_placed c.self.inside.floors.items c.self.inside.ongoing c.self.inside.lines c.args.request.now c.args.floor c.in-Some.line.now c.self.invariant.1 (sym c.in-Some.ensures)
    (sym c.waits.ensures ∙ c.if-not-waits.false)

place : (c : goal.After-holders) → c.place.result ≡ c.holders.result + ahead c.self.inside.floors.items c.self.inside.ongoing c.args.request.now c.args.floor
place c =
    let at : c.place.result ≡ holders c.self.inside.ongoing c.args.floor + ahead c.self.inside.floors.items c.self.inside.ongoing c.args.request.now c.args.floor =
    c.place.ensures
    ∙ ap (λ x. place_in x c.in-Some.line.now.ranks) (c.rank_of.ensures ∙ ap (λ fs. rank_of fs c.args.request.now) c.deref.ensures.value)
    ∙ (placed c).placed in
    let held : c.holders.result ≡ holders c.self.inside.ongoing c.args.floor = c.holders.ensures ∙ (placed c).held in
    omega (arith, at, held)

pub overflow_sub-result : goal.overflow_sub-result
overflow_sub-result c = omega (arith, place c)

pub overflow_add-result : goal.overflow_add-result
overflow_add-result c = omega (arith, place c, fits c)

pub overflow_cast-result : goal.overflow_cast-result
overflow_cast-result c = omega (arith, place c, fits c)

pub returns-in-Some : goal.returns-in-Some
returns-in-Some c = omega (arith, place c, value c)

pub returns-in-None : goal.returns-in-None
returns-in-None c =
    let q : Queue = record { floors = c.self.inside.floors.items; given = c.self.inside.given; ongoing = c.self.inside.ongoing } in
    let found : request_at q.ongoing c.args.request.now.number ≡ Some c.args.request.now =
    subst (λ (q : Queue). request_at q.ongoing c.args.request.now.number ≡ Some c.args.request.now) (sym c.self.view_is) c.requires.ongoing in
    let line : IsSome (find (λ l. l.floor == c.args.floor) c.self.inside.lines) =
    has_line q c.self.inside.lines c.args.request.now c.args.floor c.self.invariant.0 c.self.invariant.1 (among_found q.ongoing c.args.request.now.number c.args.request.now found) c.requires.named in
    let none : false ≡ true = subst IsSome (sym c.in-None.ensures) line in
    cc
