use Rattle.std.proofs.Common.{◌≡◌, ◌∙◌, ℕ, true, false, List, ap, subst, sym}
use Rattle.std.specs.Prelude.{MatchOption}
use Rattle.std.specs.List.{slice_get}
use Rattle.floor_serve.specs.declared.table.Slot.{Slot}
use Rattle.floor_serve.specs.Table.{is_opened}
use Rattle.floor_serve.proofs.Places.{any-turned, slot-found}
use Rattle.floor_serve.proofs.table.Table.slot_of.Goals as goal

pub returns-in-Some : goal.returns-in-Some
returns-in-Some c =
    let conference = c.args.conference in
    let numbers : List ℕ = c.self.inside.places.keys in
    let opened : is_opened numbers conference ≡ true = sym (any-turned conference numbers) ∙ sym c.in-Some.ensures.found in
    subst (λ (ns : List ℕ). MatchOption c.slot_at.result (is_opened ns conference ≡ false) (λ slot. (is_opened ns conference ≡ true) × (slot.now.conference ≡ conference))) c.self.view_is
    (slot-found c.slot_at.result c.self.inside.slots.items numbers conference c.in-Some.place
    (c.slot_at.ensures ∙ ap (λ (slots : List Slot). slice_get slots c.in-Some.place) c.deref.ensures.value) c.self.invariant c.in-Some.ensures.index opened)
