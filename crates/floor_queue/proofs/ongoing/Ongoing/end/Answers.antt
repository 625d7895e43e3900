use Rattle.std.proofs.Common.{◌≡◌, ◌∙◌, ap, arith, subst, sym, List}
use Rattle.std.specs.Prelude.{◌==◌, IsSome, not}
use Rattle.std.specs.List.{position_or_len}
use Rattle.floor_queue.specs.declared.request.Request.{Request}
use Rattle.floor_queue.specs.Queue.{is_ascending, request_at, without}
use Rattle.floor_queue.proofs.Kept.{is_ascending-filter}
use Rattle.floor_queue.proofs.Placing.{TakesOut, found_within, takes_out}
use Rattle.floor_queue.proofs.ongoing.Ongoing.end.Goals as goal

pub take_out-requires : goal.take_out-requires
take_out-requires c =
    let ongoing : IsSome (request_at c.self.inside.requests.items c.args.number) =
    subst (λ (rs : List Request). IsSome (request_at rs c.args.number)) (sym c.self.view_is) c.requires in
    let place : c.place_of-place.result ≡ position_or_len (λ (r : Request). r.number == c.args.number) c.self.inside.requests.items =
    c.place_of-place.ensures ∙ ap (position_or_len (λ (r : Request). r.number == c.args.number)) (sym c.self.view_is) in
    omega (arith, found_within (λ (r : Request). r.number == c.args.number) c.self.inside.requests.items ongoing, place)

pub invariant_of-self : goal.invariant_of-self
invariant_of-self c =
    let made : TakesOut c.self.inside.requests.items c.take_out.new.requests.items c.args.number c.take_out.result =
    takes_out c.self.inside.requests.items c.take_out.new.requests.items c.args.number c.place_of-place.result c.take_out.result c.self.invariant
    (subst (λ (rs : List Request). IsSome (request_at rs c.args.number)) (sym c.self.view_is) c.requires)
    (c.place_of-place.ensures ∙ ap (position_or_len (λ (r : Request). r.number == c.args.number)) (sym c.self.view_is))
    c.take_out.ensures.value c.take_out.ensures.items in
    ap is_ascending made.others ∙ is_ascending-filter (λ r. not (r.number == c.args.number)) c.self.inside.requests.items c.self.invariant

pub returns-clause-ended : goal.returns-clause-ended
returns-clause-ended c =
    let made : TakesOut c.self.inside.requests.items c.take_out.new.requests.items c.args.number c.take_out.result =
    takes_out c.self.inside.requests.items c.take_out.new.requests.items c.args.number c.place_of-place.result c.take_out.result c.self.invariant
    (subst (λ (rs : List Request). IsSome (request_at rs c.args.number)) (sym c.self.view_is) c.requires)
    (c.place_of-place.ensures ∙ ap (position_or_len (λ (r : Request). r.number == c.args.number)) (sym c.self.view_is))
    c.take_out.ensures.value c.take_out.ensures.items in
    ap (λ (rs : List Request). request_at rs c.args.number) (sym c.self.view_is) ∙ made.ended

pub returns-clause-next : goal.returns-clause-next
returns-clause-next c =
    let made : TakesOut c.self.inside.requests.items c.take_out.new.requests.items c.args.number c.take_out.result =
    takes_out c.self.inside.requests.items c.take_out.new.requests.items c.args.number c.place_of-place.result c.take_out.result c.self.invariant
    (subst (λ (rs : List Request). IsSome (request_at rs c.args.number)) (sym c.self.view_is) c.requires)
    (c.place_of-place.ensures ∙ ap (position_or_len (λ (r : Request). r.number == c.args.number)) (sym c.self.view_is))
    c.take_out.ensures.value c.take_out.ensures.items in
    made.others ∙ ap (without c.args.number) c.self.view_is
