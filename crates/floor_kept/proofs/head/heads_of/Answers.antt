use Rattle.std.proofs.Common.{Some, ap, sym, ◌∙◌}
use Rattle.toml.specs.declared.value.Value.{Value}
use Rattle.floor_kept.specs.NewHeads.{AreHeadsIn}
use Rattle.floor_kept.specs.steps.Heads.{AreHeadsOfValues}
use Rattle.floor_kept.proofs.HeadsOfTables.{in_text, well}
use Rattle.floor_kept.proofs.head.heads_of.Goals as goal

pub returns-in-Some-Array : goal.returns-in-Some-Array
returns-in-Some-Array c = record {
  heads = well c.heads_in.result
      (λ heads. AreHeadsOfValues c.in-Some-Array.conferences.items heads.items)
      (λ heads. AreHeadsIn c.args.text.now heads.items)
      (λ heads are. in_text c.args.text.now c.in-Ok-table_from_str.document c.in-Some-Array.conferences heads.items
      c.in-Ok-table_from_str.ensures.ok
      (ap (λ (v : Value). Some v) (sym c.in-Some-Array.field-0-is) ∙ c.in-Some-Array.ensures.value) are)
      (rw c.in-Some-Array.conferences-is at c.heads_in.ensures.heads);
}
