use Rattle.floor_script.proofs.Emptying.{empties_fast, empties_slow}
use Rattle.floor_script.proofs.Holding.{on_ok}
use Rattle.floor_script.proofs.waiting.take_live.Goals as goal

pub returns-in-Slow : goal.returns-in-Slow
returns-in-Slow c = record { took = record { empties = empties_slow c.args.conference c.args.live _ _ _ c.in-Slow.is } }

pub returns-in-Fast : goal.returns-in-Fast
returns-in-Fast c = record { took = on_ok c.take_fast.result _ _ c.take_fast.ensures.took (λ all. record { empties = empties_fast c.args.conference c.args.live _ _ _ _ _ _ c.in-Fast.is all }) }
