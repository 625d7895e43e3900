use Rattle.std.proofs.Common.{◌≡◌, inl, inr, true, false, ap, sym, ◌∙◌}
use Rattle.floor_hub.specs.Connections.{connection_at}
use Rattle.floor_loop.specs.declared.outgoing.Mark.TheVariants.{Ready}
use Rattle.floor_loop.specs.Loop.{Attended, Outgoing, outgoing_in}
use Rattle.floor_loop.specs.steps.Changed.{marked}
use Rattle.floor_loop.proofs.Marking.{ends-some, ends-until, keeps-marked, marked-some}
use Rattle.floor_loop.proofs.Stepping.{some-out}
use Rattle.floor_loop.proofs.Writing.{changed-at, changed-beside}
use Rattle.floor_loop.proofs.Waking.{spared-at}
use Rattle.floor_loop.proofs.turn.wake_one.Goals as goal

pub returns-then-is_over : goal.returns-then-is_over
returns-then-is_over c =
    record {
      kept = c.end.ensures.kept;
      away = c.end.ensures.away;
      woken = record {
        ready = λ o is. (c.end.ensures.ended o is).0;
        over = λ x r o is_x is_r is conference over. let e = (c.end.ensures.ended o is).1 in ends-until o (ends-some o (e.0, e.1));
      };
      spared = λ k x r o p is_x is_r is_o is_p conference. spared-at c.args.number k o p (outgoing_in c.end.new.attended) (λ ne. c.end.ensures.others k ne ∙ is_o) is_p
          (λ same. inr ((c.is_over.ensures x r (ap (connection_at c.args.hub.now.connections) same ∙ is_x) is_r).0 c.if-is_over.true));
    }

pub returns : goal.returns
returns c =
    let old = c.args.attended.now in
    let new = c.wake.new.self in
    let next = ap (λ (z : Attended). z.outgoing) c.wake.ensures.next in
    let keeps = keeps-marked Ready old.time c.args.number old new next in
    record {
      kept = keeps;
      away = ap (λ (z : Attended). z.away) c.wake.ensures.next;
      woken = record {
        ready = marked-some Ready old.time c.args.number old new next;
        over = λ x r o is_x is_r is conference over.
            absurd (not_both (sym c.if-is_over.false ∙ (c.is_over.ensures x r is_x is_r).1 over));
      };
      spared = λ k x r o p is_x is_r is_o is_p conference. spared-at c.args.number k o p (outgoing_in new) (λ ne. changed-beside (marked Ready old.time) c.args.number old new next k ne ∙ is_o) is_p
          (λ same. inl (ap (λ (z : Outgoing). z.ends) (sym (some-out (marked Ready old.time o) p (sym (changed-at (marked Ready old.time) c.args.number old new next o (ap (outgoing_in old) same ∙ is_o)) ∙ ap (outgoing_in new) same ∙ is_p)))));
    }
  where
    not_both : false ≡ true → ⊥
    not_both e = cc
