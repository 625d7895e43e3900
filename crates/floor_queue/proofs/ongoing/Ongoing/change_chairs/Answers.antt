use Rattle.std.proofs.Common.{◌≡◌, ◌<◌, ◌≤◌, ◌∙◌, ◌++◌, List, ap, arith, drop, get_or, length, map, subst, sym}
use Rattle.std.proofs.lemmas.List.{append-nil, drop_all, get_or_default, take_all, with_items_is}
use Rattle.std.specs.Vec.{with_items}
use Rattle.floor_queue.specs.declared.request.Request.{Request}
use Rattle.floor_queue.specs.Queue.{is_ascending}
use Rattle.floor_queue.specs.steps.Lines.{AreChangingLines, AreLines, without_lost}
use Rattle.floor_queue.proofs.Chairs.{changing-first, changing-last, changing_more, names-without_lost, number-without_lost}
use Rattle.floor_queue.proofs.Kept.{is_ascending-map}
use Rattle.floor_queue.proofs.Loops.{set-map_front}
use Rattle.floor_queue.proofs.ongoing.Ongoing.change_chairs.Goals as goal

pub loop-request-init : goal.loop-request-init
loop-request-init c =
    record {
      next = c.deref_mut-request-items.ensures.value ∙ c.self.view_is;
      lines = changing-first c.args.before.now c.args.floors.now c.args.self.now c.args.lines.now c.requires.lines;
    }

pub loop-request-preserved : goal.loop-request-preserved
loop-request-preserved c =
    let within : c.loop-request.request-index < length c.args.self.now = omega (arith, ap length c.self.view_is) in
    let within_now : c.loop-request.request-index < length c.loop-request.request-items = omega arith in
    let item : Request = get_or c.loop-request.request-items c.loop-request.request-index c.request-item.result in
    record {
      next = set-map_front (without_lost c.args.lost) c.args.self.now c.loop-request.request-items c.loop-request.request-index _ _ within within_now
          c.change_chair.ensures.next c.loop-request.invariant.next;
      lines = changing_more c.args.before.now c.args.floors.now (without_lost c.args.lost) c.args.self.now c.loop-request.request-items c.loop-request.request-index item
          c.change_chair.new.request c.loop-request.lines c.change_chair.new.lines (names-without_lost c.args.lost) within c.loop-request.invariant.next
          (get_or_default c.loop-request.request-items c.loop-request.request-index c.request-item.result item within_now) c.change_chair.ensures.next c.change_chair.ensures.lines
          c.loop-request.invariant.lines;
    }

-- all requests are gone through
past : (c : goal.After-self-1) → length c.args.self.now ≤ c.loop-request.request-index
past c = omega (arith, ap length c.self.view_is, ap length c.deref_mut-request-items.ensures.value)

-- the requests inside after the loop
made : (c : goal.After-self-1) → (with_items c.self.inside.requests c.loop-request.request-items).items ≡ map (without_lost c.args.lost) c.args.self.now
made c =
    let i = c.loop-request.request-index in
    with_items_is c.self.inside.requests c.loop-request.request-items
    (c.loop-request.auto.request-items ∙ ap length c.deref_mut-request-items.ensures.value ∙ sym c.self.inside.requests.ok.0)
    ∙ c.loop-request.invariant.next
    ∙ ap (λ (rs : List Request). map (without_lost c.args.lost) rs ++ drop i c.args.self.now) (take_all i c.args.self.now (past c))
    ∙ ap (λ (rs : List Request). map (without_lost c.args.lost) c.args.self.now ++ rs) (drop_all i c.args.self.now (past c))
    ∙ append-nil (map (without_lost c.args.lost) c.args.self.now)

pub invariant_of-self : goal.invariant_of-self
invariant_of-self c =
    ap is_ascending (made c) ∙ is_ascending-map (without_lost c.args.lost) (number-without_lost c.args.lost) c.args.self.now ∙ ap is_ascending (sym c.self.view_is) ∙ c.self.invariant

pub returns : goal.returns
returns c =
    let i = c.loop-request.request-index in
    let g : Request → Request = without_lost c.args.lost in
    let first : AreChangingLines c.args.before.now c.args.floors.now (map g c.args.self.now) (drop i c.args.self.now) c.loop-request.lines =
    subst (λ (rs : List Request). AreChangingLines c.args.before.now c.args.floors.now (map g rs) (drop i c.args.self.now) c.loop-request.lines) (take_all i c.args.self.now (past c)) c.loop-request.invariant.lines in
    let all : AreLines c.args.floors.now (map g c.args.self.now) c.loop-request.lines =
    changing-last c.args.before.now c.args.floors.now (map g c.args.self.now) c.loop-request.lines c.requires.floors
    (subst (λ (rs : List Request). AreChangingLines c.args.before.now c.args.floors.now (map g c.args.self.now) rs c.loop-request.lines) (drop_all i c.args.self.now (past c)) first) in
    record {
      next = made c;
      lines = subst (λ (rs : List Request). AreLines c.args.floors.now rs c.loop-request.lines) (sym (made c)) all;
    }
