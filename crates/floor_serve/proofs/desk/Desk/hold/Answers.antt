use Rattle.std.proofs.Common.{◌∙◌, refl, subst, sym}
use Rattle.floor_serve.specs.Booth.{IsBooth}
use Rattle.floor_serve.proofs.desk.Desk.hold.Goals as goal

pub returns : goal.returns
returns g c = (
  c.deref_mut.result.now,
  c.change-done.new.arg2,
  subst IsBooth (c.deref-2.ensures ∙ sym c.deref_mut.ensures.value) c.journal-journal.ensures.kept,
  record { shown = c.deref_mut.result; shows = refl; left = _; met = c.change-done.ensures; leaves = refl },
)
