use Rattle.std.proofs.Common.{rules, tests, ◌==◌, ◌∙◌, sym}
use Rattle.std.proofs.lemmas.Iterator.{YieldsList-from_slice}
use Rattle.std.proofs.lemmas.Iterator.Search.{position_from_yields_List}
use Rattle.floor_web.proofs.Paths.{before-some, before-none}
use Rattle.floor_web.proofs.asked.path_of.Goals as goal

pub returns-in-Some : goal.returns-in-Some
returns-in-Some c =
    let found = position_from_yields_List (λ b. b == 63) _ _ c.position.result c.position.ensures.ran (YieldsList-from_slice c.args.target.now (cc)) (λ x b q k. search (rules, tests)) in
    before-some (λ b. b == 63) c.args.target.now c.in-Some.end (sym found ∙ c.in-Some.is)

pub returns-in-None : goal.returns-in-None
returns-in-None c =
    let found = position_from_yields_List (λ b. b == 63) _ _ c.position.result c.position.ensures.ran (YieldsList-from_slice c.args.target.now (cc)) (λ x b q k. search (rules, tests)) in
    before-none (λ b. b == 63) c.args.target.now (sym found ∙ c.in-None.is)
