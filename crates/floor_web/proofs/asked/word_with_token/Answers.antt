use Rattle.std.proofs.Common.{rules, tests}
use Rattle.std.specs.Prelude.{codes, is_some}
use Rattle.std.proofs.lemmas.Iterator.Search.{find_from_yields_List}
use Rattle.std.proofs.lemmas.Iterator.Splits.{YieldsList-from_slice_split}
use Rattle.floor_web.specs.Fields.{behind, is_separator}
use Rattle.floor_web.proofs.asked.word_with_token.Goals as goal

pub returns : goal.returns
returns c = record {
  value = find_from_yields_List (λ w. is_some (behind w (codes "token."))) _ _ _ c.find.ensures.ran
      (YieldsList-from_slice_split _ is_separator c.args.list.now c.split.ensures.rest c.split.ensures.done c.split.ensures.closure (λ x b q k. search (rules, tests)))
      (λ x b q k. search (rules, tests));
}
