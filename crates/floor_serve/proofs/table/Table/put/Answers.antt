use Rattle.std.proofs.Common.{ℕ, List, [], ◌∷◌, ◌++◌, cond, nat_eq, sym, ap, ◌∙◌}
use Rattle.std.specs.List.{list_any}
use Rattle.std.proofs.lemmas.List.{map-append}
use Rattle.floor_serve.specs.declared.table.Slot.{Slot}
use Rattle.floor_serve.specs.steps.Slots.{numbers}
use Rattle.floor_serve.proofs.Places.{put-behind}
use Rattle.floor_serve.proofs.table.Table.put.Goals as goal

pub invariant_of-self-2 : goal.invariant_of-self-2
invariant_of-self-2 c =
    let slot : Slot = c.args.slot in
    let opened : List ℕ = c.args.self.now in
    let slots : List Slot = c.self.inside.slots.items in
    c.in-Ok.ensures.keys
    ∙ ap (λ (ks : List ℕ). cond (list_any (nat_eq slot.conference) ks) ks (ks ++ slot.conference ∷ [])) (c.self.invariant ∙ c.self.view_is)
    ∙ put-behind slot.conference opened c.requires
    ∙ ap (λ (ks : List ℕ). ks ++ slot.conference ∷ []) (sym c.self.view_is)
    ∙ sym
    (ap numbers (c.push_reserved.ensures.items ∙ ap (λ (ss : List Slot). ss ++ slot ∷ []) c.in_ok-reserve.ensures.items)
    ∙ map-append (λ s. s.conference) slots (slot ∷ []))
