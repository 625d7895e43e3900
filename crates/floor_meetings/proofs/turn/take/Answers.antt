use Rattle.std.proofs.Common.{◌≡◌, ◌≤◌, ℕ, List, length, min, take, drop, ap, subst, sym, ◌∙◌}
use Rattle.floor_loop.specs.Loop.{parcels_at, rest_at}
use Rattle.floor_loop.specs.Written.{Took, acknowledged_by}
use Rattle.floor_meetings.specs.Calls.{Takes}
use Rattle.floor_meetings.proofs.Taking.{cut, within}
use Rattle.floor_meetings.proofs.turn.take.Goals as goal

pub wrote-requires : goal.wrote-requires
wrote-requires c =
    within 65536 c.lesser-count.result (rest_at c.args.hub.now c.args.number)
    (subst (λ (b : List ℕ). c.lesser-count.result ≤ length b) c.writing.ensures.value c.lesser-count.ensures.within)

pub returns : goal.returns
returns c =
    let old = c.args.hub.now in
    let new = c.wrote.new.self in
    let number = c.args.number in
    let rest = rest_at old number in
    let n = c.lesser-count.result in
    let le : n ≤ length (take 65536 rest) = subst (λ (b : List ℕ). n ≤ length b) c.writing.ensures.value c.lesser-count.ensures.within in
    let is : n ≡ min c.args.count (length (take 65536 rest)) = c.lesser-count.ensures.value ∙ ap (λ (b : List ℕ). min c.args.count (length b)) c.writing.ensures.value in
    record {
      took = subst (λ (k : ℕ). Takes number k old new) is (record {
        steps = c.wrote.ensures.steps;
        took = subst (λ (b : List ℕ). Took old new number b (acknowledged_by (drop n rest) (parcels_at old number))) (sym (cut 65536 n rest le)) c.wrote.ensures.took;
        others = c.wrote.ensures.others;
        whole = c.wrote.ensures.whole;
        acknowledged = c.wrote.ensures.acknowledged;
        filled = c.wrote.ensures.filled;
        spares = c.wrote.ensures.spares;
      });
    }
