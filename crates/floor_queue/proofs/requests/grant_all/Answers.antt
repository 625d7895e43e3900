use Rattle.std.proofs.Common.{◌∙◌, ap, map, take, sym, get_or, List, ℕ}
use Rattle.std.specs.Prelude.{◌==◌}
use Rattle.std.specs.List.{list_any}
use Rattle.std.proofs.lemmas.List.{take_more}
use Rattle.floor_queue.specs.declared.request.Request.{Request}
use Rattle.floor_queue.specs.Order.{granted_if}
use Rattle.floor_queue.proofs.Changing.{granted_more, granted_none}
use Rattle.floor_queue.proofs.requests.grant_all.Goals as goal

abbrev granted : List ℕ → Request → Request
granted ns r = granted_if (list_any (λ n. n == r.number) ns) r

pub grant-requires : goal.grant-requires
grant-requires c = record { lines = c.loop-number.invariant.lines }

pub loop-number-init : goal.loop-number-init
loop-number-init c = record { next = sym (granted_none c.args.requests.now); lines = c.requires }

pub loop-number-preserved : goal.loop-number-preserved
loop-number-preserved c =
    let so_far : List ℕ = take c.loop-number.number-index c.args.numbers.now in
    let n : ℕ = get_or c.args.numbers.now c.loop-number.number-index 0 in
    record {
      next = c.grant.ensures.next ∙ ap (λ (rs : List Request). map (λ r. granted_if (r.number == n) r) rs) c.loop-number.invariant.next
          ∙ granted_more so_far n c.args.requests.now
          ∙ ap (λ (ns : List ℕ). map (granted ns) c.args.requests.now) (sym (take_more c.args.numbers.now c.loop-number.number-index 0 c.loop-number-test.true));
      lines = c.grant.ensures.lines;
    }
