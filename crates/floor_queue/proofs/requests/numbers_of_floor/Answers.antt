use Rattle.std.proofs.Common.{rules, tests}
use Rattle.std.proofs.lemmas.Iterator.{YieldsList-from_map, YieldsList-from_slice, items_from_collect}
use Rattle.std.proofs.lemmas.Iterator.Consumers.{YieldsList-at, YieldsList-from_filter}
use Rattle.floor_queue.specs.Order.{names}
use Rattle.floor_queue.proofs.requests.numbers_of_floor.Goals as goal

pub returns : goal.returns
returns c =
    items_from_collect _ c.collect.ensures.ran
    (YieldsList-from_map {s = c.map.result} _ (λ r. r.number)
    (YieldsList-at c.map.ensures.source
    (YieldsList-from_filter {s = c.filter.result} _ (λ r. names r c.args.floor)
    (YieldsList-at c.filter.ensures.source (YieldsList-from_slice c.args.requests.now (cc)))
    c.filter.ensures.closure (λ x b q k. search (rules, tests))))
    c.map.ensures.closure (λ x r q k. search (rules, tests)))
