use Rattle.std.proofs.Common.{ap, ◌∙◌}
use Rattle.floor_loop.specs.declared.outgoing.Mark.TheVariants.{Ready, Ends}
use Rattle.floor_loop.specs.Loop.{Attended, outgoing_in}
use Rattle.floor_loop.specs.steps.Changed.{marked}
use Rattle.floor_loop.specs.steps.Listed.{deadline}
use Rattle.floor_loop.proofs.Marking.{ended-by, keeps-marked}
use Rattle.floor_loop.proofs.Stepping.{keeps-both}
use Rattle.floor_loop.proofs.Writing.{changed-beside}
use Rattle.floor_loop.proofs.turn.end.Goals as goal

pub returns : goal.returns
returns c =
    let old = c.args.attended.now in
    let mid = c.end.new.self in
    let new = c.wake.new.self in
    let first = ap (λ (z : Attended). z.outgoing) c.end.ensures.next in
    let next = ap (λ (z : Attended). z.outgoing) c.wake.ensures.next in
    record {
      kept = keeps-both (outgoing_in old) (outgoing_in mid) (outgoing_in new) (keeps-marked Ends (deadline old.time) c.args.number old mid first) (keeps-marked Ready mid.time c.args.number mid new next);
      others = λ k ne. changed-beside (marked Ready mid.time) c.args.number mid new next k ne ∙ changed-beside (marked Ends (deadline old.time)) c.args.number old mid first k ne;
      away = ap (λ (z : Attended). z.away) c.wake.ensures.next ∙ ap (λ (z : Attended). z.away) c.end.ensures.next;
      ended = ended-by mid.time c.args.number mid new next (ap (λ (z : Attended). z.time) c.wake.ensures.next) c.end.ensures.soon;
    }
