use Rattle.std.proofs.Common.{ℕ, nat_eq, subst, sym}
use Rattle.indexmap.specs.IndexMap.{get}
use Rattle.floor_keeping.specs.steps.Listed.{IsListed}
use Rattle.floor_keeping.proofs.Listing.{listed-changed}
use Rattle.floor_keeping.proofs.table.Table.change.Goals as goal

pub invariant_of-self : goal.invariant_of-self
invariant_of-self c =
    let until = c.until_of-until.ensures.value in
    subst (λ (n : ℕ). IsListed c.self.inside.policy c.self.inside.time n (get nat_eq c.change_in.new.files) c.wake_later.new.line) until
    (listed-changed c.self.inside.policy c.self.inside.time c.until_of-until.result c.args.conference c.args.change (get nat_eq c.self.inside.files) (get nat_eq c.change_in.new.files) c.self.inside.line c.stand_in.new.line
    c.wake_later.new.line c.sync_time-before.result c.sync_time-after.result c.change_in.ensures.here c.change_in.ensures.others c.sync_time-before.ensures.value c.sync_time-after.ensures.value
    c.stand_in.ensures.here c.stand_in.ensures.others c.stand_in.ensures.short c.stand_in.ensures.wakings c.wake_later.ensures.here c.wake_later.ensures.others c.wake_later.ensures.ascending
    c.wake_later.ensures.short c.wake_later.ensures.conferences
    (subst (λ (n : ℕ). IsListed c.self.inside.policy c.self.inside.time n (get nat_eq c.self.inside.files) c.self.inside.line) (sym until) c.self.invariant))
