use Rattle.std.proofs.Common.{◌≡◌, ◌∙◌, ap, arith, map, sym, subst, List}
use Rattle.std.specs.Prelude.{◌==◌, IsSome}
use Rattle.std.specs.List.{position_or_len}
use Rattle.floor_queue.specs.declared.request.Request.{Request}
use Rattle.floor_queue.specs.Queue.{is_ascending, request_at, with_reason}
use Rattle.floor_queue.proofs.Kept.{is_ascending-map}
use Rattle.floor_queue.proofs.Placing.{found_within}
use Rattle.floor_queue.proofs.Reasons.{number-with_reason, reasoned_here}
use Rattle.floor_queue.proofs.ongoing.Ongoing.set_reason.Goals as goal

pub index_mut-requires : goal.index_mut-requires
index_mut-requires c =
    let ongoing : IsSome (request_at c.self.inside.requests.items c.args.number) =
    subst (λ (rs : List Request). IsSome (request_at rs c.args.number)) (sym c.self.view_is) c.requires in
    let place : c.place_of-place.result ≡ position_or_len (λ (r : Request). r.number == c.args.number) c.self.inside.requests.items =
    c.place_of-place.ensures ∙ ap (position_or_len (λ (r : Request). r.number == c.args.number)) (sym c.self.view_is) in
    omega (arith, found_within (λ (r : Request). r.number == c.args.number) c.self.inside.requests.items ongoing, place)

pub invariant_of-self : goal.invariant_of-self
invariant_of-self c =
    let rs : List Request = c.self.inside.requests.items in
    ap is_ascending
    (reasoned_here rs c.args.number c.place_of-place.result c.args.reason c.index_mut.result.now c.set_reason.new.request c.self.invariant
    (subst (λ (xs : List Request). IsSome (request_at xs c.args.number)) (sym c.self.view_is) c.requires)
    (c.place_of-place.ensures ∙ ap (position_or_len (λ (r : Request). r.number == c.args.number)) (sym c.self.view_is)) c.index_mut.ensures.value c.set_reason.ensures)
    ∙ is_ascending-map (with_reason c.args.number c.args.reason) (number-with_reason c.args.number c.args.reason) rs
    ∙ c.self.invariant

pub returns : goal.returns
returns c =
    reasoned_here c.self.inside.requests.items c.args.number c.place_of-place.result c.args.reason c.index_mut.result.now c.set_reason.new.request c.self.invariant
    (subst (λ (xs : List Request). IsSome (request_at xs c.args.number)) (sym c.self.view_is) c.requires)
    (c.place_of-place.ensures ∙ ap (position_or_len (λ (r : Request). r.number == c.args.number)) (sym c.self.view_is)) c.index_mut.ensures.value c.set_reason.ensures
    ∙ ap (map (with_reason c.args.number c.args.reason)) c.self.view_is
