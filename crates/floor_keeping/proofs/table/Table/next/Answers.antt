use Rattle.std.proofs.Common.{ℕ, nat_eq, subst, sym}
use Rattle.std.specs.Prelude.{IfNone}
use Rattle.indexmap.specs.IndexMap.{get}
use Rattle.floor_keeping.specs.Table.{NothingAsked, Table, file_in, until_in}
use Rattle.floor_keeping.specs.steps.Listed.{IsListed}
use Rattle.floor_keeping.proofs.Listing.{if-none}
use Rattle.floor_keeping.proofs.table.Table.next.Goals as goal

pub invariant_of-self : goal.invariant_of-self
invariant_of-self c =
    let until = c.until_of-until.ensures.value in
    subst (λ (n : ℕ). IsListed c.self.inside.policy c.self.inside.time n (get nat_eq c.turn_in.new.files) c.turn_in.new.line) until
    (c.turn_in.ensures.listed c.self.inside.time (subst (λ (n : ℕ). IsListed c.self.inside.policy c.self.inside.time n (get nat_eq c.self.inside.files) c.self.inside.line) (sym until) c.self.invariant))

pub returns-clause-nothing : goal.returns-clause-nothing
returns-clause-nothing c =
    let until = c.until_of-until.ensures.value in
    subst (λ (t : Table). IfNone c.turn_in.result (NothingAsked t.policy (until_in t) (file_in t))) c.self.view_is
    (if-none c.turn_in.result
    (λ h. subst (λ (n : ℕ). NothingAsked c.self.inside.policy n (get nat_eq c.self.inside.files)) until
    (h c.self.inside.time (subst (λ (n : ℕ). IsListed c.self.inside.policy c.self.inside.time n (get nat_eq c.self.inside.files) c.self.inside.line) (sym until) c.self.invariant)))
    c.turn_in.ensures.nothing)
