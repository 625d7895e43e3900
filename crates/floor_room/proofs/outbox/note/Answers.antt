use Rattle.std.proofs.Common.{◌≡◌, ◌-◌, ◌∙◌, true, false, List, ℕ, ap, length, sym}
use Rattle.std.specs.Prelude.{◌==◌, is_some, slice_get}
use Rattle.std.specs.Option.{option_map_or}
use Rattle.floor_room.specs.Taking.{outbox_of}
use Rattle.floor_room.proofs.Noted.{last-is-one, noted-again, unnoted}
use Rattle.floor_room.proofs.outbox.note.Goals as goal

pub returns-then-is_last : goal.returns-then-is_last
returns-then-is_last c =
    let last : option_map_or (λ k. k == c.args.n) (slice_get c.args.told.now.items (length c.args.told.now.items - 1)) false ≡ true =
    sym (ap (λ (xs : List ℕ). option_map_or (λ k. k == c.args.n) (slice_get xs (length xs - 1)) false) c.deref.ensures.value) ∙ sym c.is_last.ensures ∙ c.if-is_last.true in
    record { next = λ k. noted-again c.args.told.now.items (is_some (outbox_of c.args.outboxes.now c.args.n)) c.args.n k (last-is-one c.args.told.now.items (length c.args.told.now.items - 1) c.args.n last) }

pub returns-then-not-has_outbox : goal.returns-then-not-has_outbox
returns-then-not-has_outbox c = record { next = λ k. unnoted c.args.told.now.items (is_some (outbox_of c.args.outboxes.now c.args.n)) c.args.n k (sym c.has_outbox.ensures ∙ c.if-not-has_outbox.true) }
