use Rattle.std.proofs.Common.{◌≤◌, ℕ, List, ◌++◌, length, take, drop, subst, ap, arith, ◌∙◌}
use Rattle.floor_loop.specs.Loop.{parcels_at, rest_at}
use Rattle.floor_loop.specs.Written.{acknowledged_by}
use Rattle.floor_claims.proofs.Calling.{cut, one-call, within}
use Rattle.floor_claims.proofs.calls.write.Goals as goal

pub wrote-requires : goal.wrote-requires
wrote-requires c =
    within 65536 c.min-count.result (rest_at c.args.hub.now c.args.number)
    (subst (λ (b : List ℕ). c.min-count.result ≤ length b) c.writing-lent.ensures.value (omega (arith, c.min-count.ensures)))

pub returns-then-is_live : goal.returns-then-is_live
returns-then-is_live c =
    let rest = rest_at c.args.hub.now c.args.number in
    let count = c.min-count.result in
    let le : count ≤ length (take 65536 rest) = subst (λ (b : List ℕ). count ≤ length b) c.writing-lent.ensures.value (omega (arith, c.min-count.ensures)) in
    record {
      writes = record {
        bytes = take count rest;
        grew = c.in_ok-extend_from_slice.ensures.items ∙ ap (λ (b : List ℕ). c.args.taken.now.items ++ b) (ap (take count) c.writing-lent.ensures.value ∙ cut 65536 count rest le);
        led = one-call c.args.number _ c.args.hub.now c.wrote.new.self (take count rest) (acknowledged_by (drop count rest) (parcels_at c.args.hub.now c.args.number)) c.wrote.ensures.steps c.wrote.ensures.took
            (c.is_live.ensures.live c.if-is_live.true) c.is_live.ensures.serving;
      };
    }
