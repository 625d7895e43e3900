use Rattle.std.proofs.Common.{rules, ◌≡◌, ◌<◌, ◌*◌, ◌≤◌, ℕ, List, length, map, subst, sym}
use Rattle.std.specs.Prelude.{All}
use Rattle.floor_message.proofs.Details.{details_short}
use Rattle.floor_wire.specs.View.{attributes_of}
use Rattle.floor_message.specs.Picked.{distinct, mandatory}
use Rattle.floor_message.proofs.ask_reader.by_attributes.Goals as goal

pub returns-then-not-is_empty-clause-details : goal.returns-then-not-is_empty-clause-details
returns-then-not-is_empty-clause-details c =
    let kinds : All (λ t. t < 128) (distinct (mandatory (attributes_of c.in-Some.attrs))) = search rules in
    let same : c.from_vec.result ≡ map (λ (k : ℕ). 2 * k) (distinct (mandatory (attributes_of c.in-Some.attrs))) = search rules in
    let P : List ℕ → Type 0 = λ ds. length ds ≤ 110 in
    subst P (sym same) (details_short (attributes_of c.in-Some.attrs) kinds)
