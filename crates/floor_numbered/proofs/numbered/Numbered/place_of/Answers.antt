use Rattle.std.proofs.Common.{Some, ap, sym, ◌∙◌, slice_get}
use Rattle.std.specs.Prelude.{nat_eq}
use Rattle.indexmap.specs.IndexMap.{get}
use Rattle.floor_numbered.proofs.numbered.Numbered.place_of.Goals as goal

pub returns-then-key-number : goal.returns-then-key-number
returns-then-key-number g c =
    let value = c.in_ok-key._value.now in
    record {
      found = (
        value,
        ap (λ m. slice_get m.entries c.in_ok-place.field-0.now) (sym c.self.view_is) ∙ sym c.in_ok-key.ensures.entry ∙ ap (λ k. Some (k, value)) c.if-key-number.true,
        ap (λ m. get nat_eq m c.args.number) (sym c.self.view_is) ∙ ap (get nat_eq c.self.inside.map) (sym c.if-key-number.true) ∙ c.in_ok-key.ensures.value,
      );
    }
