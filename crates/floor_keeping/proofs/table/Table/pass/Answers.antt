use Rattle.std.proofs.Common.{◌≤◌, ℕ, arith, nat_eq, subst, sym}
use Rattle.indexmap.specs.IndexMap.{get}
use Rattle.floor_keeping.specs.Table.{sync_until}
use Rattle.floor_keeping.specs.steps.Listed.{IsListed}
use Rattle.floor_keeping.proofs.Listing.{until-grows}
use Rattle.floor_keeping.proofs.table.Table.pass.Goals as goal

pub invariant_of-self : goal.invariant_of-self
invariant_of-self c =
    let until = c.until_of-until.ensures.value in
    let on : c.self.inside.time ≤ c.max-self-inside.result = omega (arith, c.max-self-inside.ensures) in
    subst (λ (n : ℕ). IsListed c.self.inside.policy c.max-self-inside.result n (get nat_eq c.self.inside.files) c.wake_in.new.line) until
    (c.wake_in.ensures.listed c.self.inside.time c.max-self-inside.result (sync_until c.self.inside.is_last c.self.inside.time)
    (subst (λ (n : ℕ). sync_until c.self.inside.is_last c.self.inside.time ≤ n) (sym until) (until-grows c.self.inside.is_last c.self.inside.time c.max-self-inside.result on)) on c.self.invariant)
