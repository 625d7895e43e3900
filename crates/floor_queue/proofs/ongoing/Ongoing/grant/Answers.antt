use Rattle.std.proofs.Common.{◌≡◌, ◌<◌, ◌∙◌, ap, arith, length, sym, set, refl, true, subst, map, List}
use Rattle.std.specs.Prelude.{◌==◌}
use Rattle.std.specs.List.{position_or_len}
use Rattle.floor_queue.specs.declared.request.Request.{Request}
use Rattle.floor_queue.specs.Order.{granted_if}
use Rattle.floor_queue.specs.Queue.{is_ascending}
use Rattle.floor_queue.specs.steps.Lines.{AreLines}
use Rattle.floor_queue.proofs.Kept.{is_ascending-map, keeps_granted_if}
use Rattle.floor_queue.proofs.Changing.{Changed, changed_here, none_changed}
use Rattle.floor_queue.proofs.ongoing.Ongoing.grant.Goals as goal

made : (c : goal.After-change) → Changed c.args.floors.now c.self.inside.requests.items c.args.number (granted_if true) c.index-request.result.now
    (set c.self.inside.requests.items c.place_of-place.result c.grant.new.request) c.change.new.self
made c =
    let place : c.place_of-place.result ≡ position_or_len (λ (r : Request). r.number == c.args.number) c.self.inside.requests.items =
    c.place_of-place.ensures ∙ ap (position_or_len (λ (r : Request). r.number == c.args.number)) (sym c.self.view_is) in
    let within : c.place_of-place.result < length c.self.inside.requests.items = omega arith in
    changed_here c.args.floors.now c.self.inside.requests.items c.args.lines.now c.change.new.self c.args.number c.place_of-place.result (granted_if true)
    c.index.result.now c.index_mut.result.now c.grant.new.request c.index-request.result.now c.rank_of-old.result c.rank_of.result
    c.self.invariant (subst (λ (rs : List Request). AreLines c.args.floors.now rs c.args.lines.now) (sym c.self.view_is) c.requires.lines) (λ r id. refl)
    place within c.index.ensures c.index_mut.ensures.value c.grant.ensures c.index-request.ensures c.rank_of-old.ensures c.rank_of.ensures c.change.ensures

pub invariant_of-self : goal.invariant_of-self
invariant_of-self c =
    ap is_ascending (made c).next
    ∙ is_ascending-map (λ (r : Request). granted_if (r.number == c.args.number) r) ((keeps_granted_if (λ r. r.number == c.args.number)).number) c.self.inside.requests.items
    ∙ c.self.invariant

pub returns-then-place-len : goal.returns-then-place-len
returns-then-place-len c = record { next = (made c).next ∙ ap (map (λ (r : Request). granted_if (r.number == c.args.number) r)) c.self.view_is; lines = (made c).lines }

pub returns-else-place-len : goal.returns-else-place-len
returns-else-place-len c =
    let place : c.place_of-place.result ≡ position_or_len (λ (r : Request). r.number == c.args.number) c.self.inside.requests.items =
    c.place_of-place.ensures ∙ ap (position_or_len (λ (r : Request). r.number == c.args.number)) (sym c.self.view_is) in
    record {
      next = sym c.self.view_is ∙ sym (none_changed c.args.number (granted_if true) c.self.inside.requests.items (omega (arith, place))) ∙ ap (map (λ (r : Request). granted_if (r.number == c.args.number) r)) c.self.view_is;
      lines = c.requires.lines;
    }
