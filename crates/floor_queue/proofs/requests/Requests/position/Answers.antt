use Rattle.std.proofs.Common.{◌≡◌, ◌∙◌, ℕ, Bool, true, false, cond, List, [], ◌∷◌, Some, ap, refl, sym}
use Rattle.std.specs.Prelude.{◌==◌}
use Rattle.std.proofs.lemmas.Bool.{eqb-true}
use Rattle.floor_queue.specs.declared.request.Request.{Request}
use Rattle.floor_queue.specs.Queue.{position_of, request_at}
use Rattle.floor_queue.proofs.requests.Requests.position.Goals as goal

-- the request that is found has the number
numbered : (rs : List Request) (n : ℕ) (r : Request) → request_at rs n ≡ Some r → r.number ≡ n
numbered [] n r h = cc
numbered (x ∷ rs) n r h = by (x.number == n) refl h (numbered rs n r)
  where
    by : (b : Bool) → (x.number == n) ≡ b → cond b (Some x) (request_at rs n) ≡ Some r → (request_at rs n ≡ Some r → r.number ≡ n) → r.number ≡ n
    by true e h rest = let same : x ≡ r = cc in ap (λ (y : Request). y.number) (sym same) ∙ eqb-true x.number n e
    by false e h rest = rest h

pub position_of-requires-clause-ongoing : goal.position_of-requires-clause-ongoing
position_of-requires-clause-ongoing c =
    let r : Request = c.in-Some.found.now in
    let is : request_at c.args.self.now.ongoing c.args.request ≡ Some r = sym c.in-Some.ensures in
    ap (λ (n : ℕ). request_at c.args.self.now.ongoing n) (numbered c.args.self.now.ongoing c.args.request r is) ∙ is

pub returns-in-Some : goal.returns-in-Some
returns-in-Some c =
    let r : Request = c.in-Some.found.now in
    c.position_of.ensures
    ∙ ap (λ (n : ℕ). position_of c.args.self.now n c.args.floor) (numbered c.args.self.now.ongoing c.args.request r (sym c.in-Some.ensures))
