use Rattle.std.proofs.Common.{None, Some, drop, sym, ◌∙◌, subst}
use Rattle.floor_keeping.specs.Table.{IsSoonest, Table, file_in, until_in}
use Rattle.floor_keeping.proofs.Listing.{soonest-first, soonest-none}
use Rattle.floor_keeping.proofs.table.Table.due.Goals as goal

pub returns-in-Some : goal.returns-in-Some
returns-in-Some c = record {
  value =
      subst (λ (t : Table). IsSoonest (until_in t) (file_in t) (Some c.in-Some.waking.at)) c.self.view_is
      (soonest-first c.self.inside.policy c.self.inside.time _ _ c.self.inside.line c.in-Some.waking (drop 1 c.self.inside.line.wakings) (sym c.is_short.ensures.value ∙ c.if-is_short.false) c.in-Some.ensures.value
      c.self.invariant);
}

pub returns-in-None : goal.returns-in-None
returns-in-None c = record {
  value =
      subst (λ (t : Table). IsSoonest (until_in t) (file_in t) None) c.self.view_is
      (soonest-none c.self.inside.policy c.self.inside.time _ _ c.self.inside.line (sym c.is_short.ensures.value ∙ c.if-is_short.false) c.in-None.ensures.value c.self.invariant);
}
