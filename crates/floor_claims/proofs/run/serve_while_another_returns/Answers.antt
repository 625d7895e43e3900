use Rattle.std.proofs.Common.{ℕ, List, [], subst, sym}
use Rattle.floor_claims.specs.Claim.{IsWhole, IsWritten}
use Rattle.floor_claims.specs.steps.Led.{Writes}
use Rattle.floor_claims.proofs.Calling.{concluded}
use Rattle.floor_claims.proofs.run.serve_while_another_returns.Goals as goal

pub returns : goal.returns
returns c =
    let number = c.in_ok-begun.begun.number in
    let last = c.go_on.new.begun.hub in
    let taken = c.go_on.new.taken.items in
    let from : Writes number c.in_ok-begun.begun.hub last [] taken =
    subst (λ (was : List ℕ). Writes number c.in_ok-begun.begun.hub last was taken) c.new-taken.ensures.items c.in_ok-go_on.ensures.writes in
    let whole : IsWhole last number = subst (IsWhole last) c.go_on.ensures.number (c.is_whole.ensures.whole c.if-not-is_whole.false) in
    record {
      written = subst (λ (k : ℕ). IsWritten last k taken) (sym c.go_on.ensures.number) (concluded c.written_is_called_for.ensures number c.in_ok-begun.begun.hub last taken c.in_ok-begun.ensures.begun from whole);
    }
