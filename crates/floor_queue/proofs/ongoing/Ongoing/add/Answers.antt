use Rattle.std.proofs.Common.{◌≡◌, ◌∙◌, ◌++◌, ◌∷◌, [], ap, arith, true, subst, sym, List}
use Rattle.std.specs.Prelude.{is_ok, nat_lt}
use Rattle.std.specs.List.{list_all}
use Rattle.floor_queue.specs.declared.request.Request.{Request}
use Rattle.floor_queue.specs.Queue.{is_ascending}
use Rattle.floor_queue.proofs.Kept.{is_ascending-push}
use Rattle.floor_queue.proofs.ongoing.Ongoing.add.Goals as goal

pub invariant_of-self-2 : goal.invariant_of-self-2
invariant_of-self-2 c =
    let ok : is_ok c.push-pushed.result ≡ true = c.push-pushed.ensures.succeeds (omega (arith, c.in_ok-reserve.ensures.ok)) in
    let items : c.push-pushed.new.self.items ≡ c.self.inside.requests.items ++ c.args.request ∷ [] =
    c.push-pushed.ensures.items ∙ rw ok (ap (λ (rs : List Request). rs ++ c.args.request ∷ []) c.in_ok-reserve.ensures.items) in
    ap is_ascending items
    ∙ is_ascending-push c.self.inside.requests.items c.args.request c.self.invariant
    (subst (λ (rs : List Request). list_all (λ r. nat_lt r.number c.args.request.number) rs ≡ true) (sym c.self.view_is) c.requires)
