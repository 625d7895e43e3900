use Rattle.std.proofs.Common.{◌≡◌, ◌∙◌, ◌++◌, ◌∷◌, [], List, ap, arith, false, subst, sym, true}
use Rattle.std.specs.Prelude.{is_ok}
use Rattle.floor_config.specs.declared.floors.Floor.{Floor}
use Rattle.floor_config.specs.Lookup.{is_floor}
use Rattle.floor_queue.specs.Queue.{Queue}
use Rattle.floor_queue.proofs.Added.{AreLines-more, AreMarked-more, IsQueue-add_floor}
use Rattle.floor_queue.proofs.Places.{queue_has_rooms}
use Rattle.floor_queue.proofs.requests.Requests.add_floor.Goals as goal

pub invariant_of-self-2 : goal.invariant_of-self-2
invariant_of-self-2 c =
    let q : Queue = record { floors = c.self.inside.floors.items; given = c.self.inside.given; ongoing = c.self.inside.ongoing } in
    let ok : is_ok c.push-pushed.result ≡ true = c.push-pushed.ensures.succeeds (omega (arith, c.in_ok-reserve.ensures.ok)) in
    let items : c.push-pushed.new.self.items ≡ q.floors ++ c.args.floor ∷ [] =
    c.push-pushed.ensures.items ∙ rw ok (ap (λ (floors : List Floor). floors ++ c.args.floor ∷ []) c.in_ok-reserve.ensures.items) in
    let differs : is_floor q.floors c.args.floor.id ≡ false = subst (λ (q : Queue). is_floor q.floors c.args.floor.id ≡ false) (sym c.self.view_is) c.requires.differs in (
      rw items (IsQueue-add_floor q c.args.floor differs c.requires.room c.self.invariant.0),
      rw (items, c.in_ok-add_floor.ensures.next) (AreLines-more q.floors c.args.floor differs q.ongoing (queue_has_rooms q c.self.invariant.0) c.self.inside.lines c.self.invariant.1),
      rw (items, c.in_ok-add_floor.ensures.next) (AreMarked-more q.floors c.args.floor differs q.ongoing (queue_has_rooms q c.self.invariant.0) c.self.inside.lines c.self.invariant.2),
      c.self.invariant.3,
    )
