use Rattle.std.proofs.Common.{◌^◌, sym}
use Rattle.floor_proxy.proofs.Numerals.{not_text}
use Rattle.floor_proxy.proofs.name.user_of.Goals as goal

pub returns-in-Err : goal.returns-in-Err
returns-in-Err c = rw (sym c.has_leading_zero.ensures.value, c.if-has_leading_zero.false) (record { value = sym (not_text (2 ^ 16) c.args.digits.now c.in-Err.ensures.cases.0) })
