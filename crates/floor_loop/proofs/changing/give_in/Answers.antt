use Rattle.std.proofs.Common.{refl, sym, ◌∙◌}
use Rattle.floor_loop.proofs.changing.give_in.Goals as goal

pub returns-then-not-stands : goal.returns-then-not-stands
returns-then-not-stands c = record { next = refl; value = sym c.if-not-stands.true ∙ c.stands.ensures.value }

pub returns : goal.returns
returns c = record { next = c.give_one.ensures.next; value = sym c.if-not-stands.false ∙ c.stands.ensures.value }
