use Rattle.std.proofs.Common.{◌≡◌, ◌<◌, ◌++◌, ◌∷◌, ◌+◌, [], length, map, ap, arith, rules, subst, sym, true, false, None}
use Rattle.std.specs.Prelude.{nat_lt}
use Rattle.std.proofs.lemmas.Bool.{lt-ltb}
use Rattle.std.proofs.lemmas.List.{length-map}
use Rattle.floor_queue.specs.declared.request.Request.{Request}
use Rattle.floor_queue.specs.Queue.{Queue, IsAddable, first_floor, first_request}
use Rattle.floor_queue.specs.steps.Lines.{added, rank_of}
use Rattle.floor_queue.proofs.Kept.{IsQueue-add, all_below}
use Rattle.floor_queue.proofs.Lining.{AreLines-added, AreLines-marked}
use Rattle.floor_queue.proofs.Marking.{AreMarked-added}
use Rattle.floor_queue.proofs.Parting.{AreParties-added}
use Rattle.floor_queue.proofs.requests.Requests.add_with_room.Goals as goal

pub add-requires : goal.add-requires
add-requires c = all_below record { floors = c.self.inside.floors.items; given = c.self.inside.given; ongoing = c.self.inside.ongoing } c.self.invariant.0

pub invariant_of-self-2 : goal.invariant_of-self-2
invariant_of-self-2 c =
    let q : Queue = record { floors = c.self.inside.floors.items; given = c.self.inside.given; ongoing = c.self.inside.ongoing } in
    let few : length c.self.inside.ongoing < 256 = subst (λ (q : Queue). length q.ongoing < 256) (sym c.self.view_is) c.requires.room in
    let addable : IsAddable q.floors c.args.new = subst (λ (q : Queue). IsAddable q.floors c.args.new) (sym c.self.view_is) c.requires.addable in
    let some : nat_lt 0 (length c.from_vec.result) ≡ true =
    lt-ltb 0 (length c.from_vec.result)
    (omega (arith, c.requires.addable.floors_least, ap length c.from_vec.ensures, ap length c.in_ok-floors.ensures, length-map c.as_slice.result.now (first_floor c.deref.result.now), ap length c.as_slice.ensures)) in
    let r : Request =
    record {
      number = c.self.inside.given + 1;
      requester = c.args.new.requester;
      beneficiary = c.args.new.beneficiary;
      priority = c.args.new.priority;
      info = c.args.new.info;
      reason = None;
      floors = c.from_vec.result;
      is_granted = false;
    } in
    let e : c.add.new.self ≡ c.self.inside.ongoing ++ first_request q.floors (q.given + 1) c.args.new ∷ [] = search rules in (
      rw e (IsQueue-add q c.args.new c.self.invariant.0 few addable),
      rw (c.in_ok-add.ensures.next, c.in_ok-add.ensures.lines, c.deref-2.ensures.value)
          (AreLines-marked q.floors (q.ongoing ++ r ∷ []) r (map (added r (rank_of q.floors r)) c.self.inside.lines)
          (AreLines-added q.floors q.ongoing r c.self.inside.lines c.self.invariant.1)),
      rw (c.in_ok-add.ensures.next, c.in_ok-add.ensures.lines, c.deref-2.ensures.value)
          (AreMarked-added q.floors q.ongoing c.self.inside.lines r (rank_of q.floors r) some c.self.invariant.1 c.self.invariant.2),
      rw (c.in_ok-add.ensures.next, c.in_ok-add.ensures.parties) (AreParties-added q.ongoing r c.self.inside.parties c.self.invariant.3),
    )
