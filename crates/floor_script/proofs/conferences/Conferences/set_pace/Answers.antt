use Rattle.std.proofs.Common.{refl, sym, ap, ◌∙◌}
use Rattle.floor_script.specs.Answered.{pace_answer}
use Rattle.floor_script.proofs.conferences.Conferences.set_pace.Goals as goal

pub returns-then-set_pace : goal.returns-then-set_pace
returns-then-set_pace c = record { took = record { hub = refl; attached = c.set_pace.ensures.next; answer_is = ap pace_answer (sym c.if-set_pace.true ∙ c.set_pace.ensures.value) } }

pub returns-else-set_pace : goal.returns-else-set_pace
returns-else-set_pace c = record { took = record { hub = refl; attached = c.set_pace.ensures.next; answer_is = ap pace_answer (sym c.if-set_pace.false ∙ c.set_pace.ensures.value) } }
