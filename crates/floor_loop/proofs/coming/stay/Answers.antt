use Rattle.std.proofs.Common.{◌≡◌, true, false, ap, refl, subst, sym, ◌∙◌}
use Rattle.std.specs.Prelude.{IsSome}
use Rattle.std.proofs.lemmas.Option.{none-some}
use Rattle.floor_loop.specs.Away.{Away, stay_of}
use Rattle.floor_loop.specs.Loop.{outgoing_in}
use Rattle.floor_loop.specs.steps.Moved.{loop_of}
use Rattle.floor_loop.proofs.Calls.{moved-kept}
use Rattle.floor_loop.proofs.Stepping.{keeps-refl}
use Rattle.floor_loop.proofs.coming.stay.Goals as goal

not_both : true ≡ false → ⊥
not_both e = cc

pub returns-in-Some : goal.returns-in-Some
returns-in-Some c =
    let a = c.args.attended.now in
    let there = c.in-Some.ensures.value ∙ ap (λ (z : Away). stay_of z c.args.number) c.away.ensures.value in
    record {
      moved = moved-kept (loop_of c.args.hub.now a) (loop_of c.args.hub.now a) refl (keeps-refl (outgoing_in a)) (λ k s is. is);
      away = λ e. subst IsSome there refl;
      lost = λ none. absurd (none-some c.in-Some._stay (sym none ∙ sym there));
      user = λ none. absurd (none-some c.in-Some._stay (sym none ∙ sym there));
      leaves = λ e. absurd (not_both e);
      over = λ none. absurd (none-some c.in-Some._stay (sym none ∙ sym there));
      none = λ none. absurd (none-some c.in-Some._stay (sym none ∙ sym there));
      others = λ k ne. refl;
    }

pub returns-in-None : goal.returns-in-None
returns-in-None c = record {
  moved = c.lose.ensures.moved;
  away = λ e. let s = c.lose.ensures.away e in subst IsSome (sym s.1) refl;
  lost = λ none. c.lose.ensures.away;
  user = λ none. c.lose.ensures.user;
  leaves = λ e other. (sym (c.in-None.ensures.value ∙ ap (λ (z : Away). stay_of z c.args.number) c.away.ensures.value), c.lose.ensures.leaves e other);
  over = λ none. c.lose.ensures.over;
  none = λ none. c.lose.ensures.none;
  others = c.lose.ensures.others;
}
