-- Whom a room has told something, where no event was added.
use Rattle.std.proofs.Common.{◌≡◌, ℕ, List, [], length, sym, ap, subst, ◌∙◌, arith}
use Rattle.std.specs.Prelude.{◌==◌}
use Rattle.std.specs.List.{list_any}
use Rattle.std.proofs.lemmas.Bool.{le-ltb}
use Rattle.floor_room.specs.Room.{Room}
use Rattle.floor_room.specs.Told.{waiting_in}
use Rattle.floor_hub.specs.steps.Attached.{Tells}

-- a room that is as it was has told nobody anything
pub untold : (r : Room) (told : List ℕ) → told ≡ [] → Tells r r told
untold r told e is_open n = ap (list_any (λ k. k == n)) e ∙ sym (le-ltb (length (waiting_in r.outboxes n)) (length (waiting_in r.outboxes n)) (omega arith))

pub untold-same : (r s : Room) (told : List ℕ) → s ≡ r → told ≡ [] → Tells r s told
untold-same r s told same e = subst (λ (z : Room). Tells r z told) (sym same) (untold r told e)
