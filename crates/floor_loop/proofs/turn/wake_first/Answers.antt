use Rattle.std.proofs.Common.{refl, sym, ap}
use Rattle.floor_loop.specs.declared.outgoing.Mark.TheVariants.{Ready}
use Rattle.floor_loop.specs.Loop.{Attended, outgoing_in}
use Rattle.floor_loop.specs.steps.Changed.{marked}
use Rattle.floor_loop.proofs.Marking.{keeps-marked, marked-some}
use Rattle.floor_loop.proofs.Sparing.{ends-changed}
use Rattle.floor_loop.proofs.Stepping.{keeps-refl}
use Rattle.floor_loop.proofs.turn.wake_first.Goals as goal

pub returns-in-Some : goal.returns-in-Some
returns-in-Some c =
    let old = c.args.attended.now in
    let new = c.wake.new.self in
    let next = ap (λ (z : Attended). z.outgoing) c.wake.ensures.next in
    record {
      kept = keeps-marked Ready old.time c.args.number old new next;
      woken = λ o is some. marked-some Ready old.time c.args.number old new next o is;
      ends = λ k. ends-changed (marked Ready old.time) c.args.number old new next (λ o. refl) k;
      away = ap (λ (z : Attended). z.away) c.wake.ensures.next;
    }

pub returns-in-None : goal.returns-in-None
returns-in-None c = record {
  kept = keeps-refl (outgoing_in c.args.attended.now);
  woken = λ o is some. absurd (some (sym c.in-None.ensures.value));
  ends = λ k. refl;
  away = refl;
}
