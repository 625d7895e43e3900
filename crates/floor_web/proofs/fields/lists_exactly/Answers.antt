use Rattle.std.proofs.Common.{rules, tests}
use Rattle.std.proofs.lemmas.Iterator.Search.{any_from_yields_List}
use Rattle.std.proofs.lemmas.Iterator.Splits.{YieldsList-from_slice_split}
use Rattle.std.specs.Prelude.{bytes_eq}
use Rattle.floor_web.specs.Fields.{is_separator}
use Rattle.floor_web.proofs.fields.lists_exactly.Goals as goal

pub returns : goal.returns
returns c =
    any_from_yields_List (λ w. bytes_eq w c.args.word.now) _ _ _ c.any.ensures.ran
    (YieldsList-from_slice_split _ is_separator c.args.list.now c.split.ensures.rest c.split.ensures.done c.split.ensures.closure (λ x b q k. search (rules, tests)))
    (λ x b q k. search (rules, tests))
