use Rattle.std.proofs.Common.{List, subst}
use Rattle.std.specs.Prelude.{◌==◌, filter}
use Rattle.std.specs.List.{list_any}
use Rattle.floor_hub.specs.declared.attached.Live.{Live}
use Rattle.floor_hub.specs.steps.Attached.{AddsNames, Names, is_noted, numbers_of}
use Rattle.floor_hub.proofs.Putting.{noted-both}
use Rattle.floor_hub.proofs.attached.Attached.name_noted.Goals as goal

pub returns-clause-named : goal.returns-clause-named
returns-clause-named c =
    subst (λ (z : List Live). Names c.name_cut.new.numbers.items (is_noted c.args.told.now c.args.cut.now) z) c.self.view_is
    (noted-both c.args.told.now c.args.cut.now c.self.inside.live.items c.args.numbers.now.items c.name_told.new.numbers.items c.name_cut.new.numbers.items c.requires.none
    c.name_cut.ensures.naming.ascending
    (subst (λ (z : List Live). AddsNames c.args.numbers.now.items c.name_told.new.numbers.items (numbers_of (filter (λ l. list_any (λ k. k == l.n) c.args.told.now) z))) c.as_slice.ensures.value c.name_told.ensures.named)
    c.name_cut.ensures.named)
