use Rattle.std.proofs.Common.{◌≡◌, ◌+◌, ◌≤◌, suc, ap, arith, length, subst, ◌∙◌, nat_eq}
use Rattle.std.specs.Prelude.{IfSome, Option, slice_index_or}
use Rattle.indexmap.specs.IndexMap.{get}
use Rattle.floor_loop.specs.declared.line.Entry.{Entry}
use Rattle.floor_loop.specs.Away.{IsOldest}
use Rattle.floor_loop.specs.steps.Soonest.{older, oldest_to}
use Rattle.floor_loop.proofs.Gathering.{oldest-is}
use Rattle.floor_loop.proofs.away.oldest_in.Goals as goal

pub loop-number-preserved : goal.loop-number-preserved
loop-number-preserved c =
    let stays = get nat_eq c.args.stays.now in
    let i = c.loop-number.number-index in
    let next : suc i ≡ i + 1 = omega arith in
    c.older-oldest.ensures.value
    ∙ ap (λ (x : Option Entry). older stays x (slice_index_or c.args.numbers.now i 0)) c.loop-number.invariant
    ∙ ap (oldest_to stays c.args.numbers.now) next

pub returns-in-Some : goal.returns-in-Some
returns-in-Some c =
    let stays = get nat_eq c.args.stays.now in
    let xs = c.args.numbers.now in
    let most : length xs ≤ c.loop-number.number-index = omega arith in
    let least : c.loop-number.number-index ≤ length xs = omega arith in
    record {
      found =
          subst (λ (z : Option Entry). IfSome z (λ e. IsOldest stays xs e.number)) c.in-Some.is
          (oldest-is stays xs c.loop-number.number-index c.loop-number.oldest most least c.loop-number.invariant);
    }
