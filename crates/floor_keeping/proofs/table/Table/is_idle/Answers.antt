use Rattle.std.proofs.Common.{subst}
use Rattle.floor_keeping.specs.Table.{NothingAsked, Table, file_in, until_in}
use Rattle.floor_keeping.proofs.Listing.{empty-line, nothing-stands}
use Rattle.floor_keeping.proofs.table.Table.is_idle.Goals as goal

pub returns : goal.returns
returns c = record {
  nothing = λ e.
      let none = empty-line c.self.inside.line.conferences c.self.inside.line.is_short c.is_empty.result c.is_empty.ensures.value e in
      subst (λ (t : Table). NothingAsked t.policy (until_in t) (file_in t)) c.self.view_is
      (nothing-stands c.self.inside.policy _ _ c.self.inside.line.conferences none.0 (c.self.invariant.stand none.1));
}
