use Rattle.std.proofs.Common.{sym, ◌∙◌}
use Rattle.floor_loop.proofs.Standing.{not-open, not-user}
use Rattle.floor_loop.proofs.coming.beside.Goals as goal

pub returns-then-not-is_open : goal.returns-then-not-is_open
returns-then-not-is_open c = record { value = λ r is. not-open r c.args.user c.in-Ok.status (c.in-Ok.ensures.found r is) (sym c.is_open.ensures.value ∙ c.if-not-is_open.true) }

pub returns-then-not-is_user : goal.returns-then-not-is_user
returns-then-not-is_user c = record { value = λ r is. not-user r c.args.user (sym (c.is_user.ensures.value r is) ∙ c.if-not-is_user.true) }
