use Rattle.std.proofs.Common.{◌≡◌, inl, inr, ℕ, Bool, true, false, cond, List, Some, ap, arith, refl, sym, ◌∙◌, nat_eq}
use Rattle.std.specs.Map.{lookup}
use Rattle.floor_loop.specs.Away.{stay_from}
use Rattle.floor_loop.specs.Loop.{Outgoing, outgoing_in}
use Rattle.floor_loop.specs.steps.Changed.{changed, unended}
use Rattle.floor_loop.specs.steps.Losing.{is_away}
use Rattle.floor_loop.specs.steps.Moved.{loop_of}
use Rattle.floor_loop.proofs.Altering.{look-other}
use Rattle.floor_loop.proofs.Calls.{moved-kept}
use Rattle.floor_loop.proofs.Entering.{kept-moves}
use Rattle.floor_loop.proofs.Stepping.{keeps-refl}
use Rattle.floor_loop.proofs.coming.lose.Goals as goal

not_both : false ≡ true → ⊥
not_both e = cc

pub returns-then-millis-eq0-clause-leaves : goal.returns-then-millis-eq0-clause-leaves
returns-then-millis-eq0-clause-leaves c = λ e other. inl (omega (arith, c.lost_for-millis.ensures.value, c.if-millis-eq0.true))

pub returns-then-millis-eq0-clause-moved : goal.returns-then-millis-eq0-clause-moved
returns-then-millis-eq0-clause-moved c = moved-kept (loop_of c.args.hub.now c.args.attended.now) (loop_of c.args.hub.now c.args.attended.now) refl (keeps-refl (outgoing_in c.args.attended.now)) (λ k s is. is)

pub returns-then-is_over : goal.returns-then-is_over
returns-then-is_over c = record {
  moved = moved-kept (loop_of c.args.hub.now c.args.attended.now) (loop_of c.args.hub.now c.args.attended.now) refl (keeps-refl (outgoing_in c.args.attended.now)) (λ k s is. is);
  away = λ e. absurd (not_both e);
  user = λ e. absurd (not_both e);
  leaves = λ e other. inr (inl (λ x r o is_x is_r is_o conference. (c.is_over.ensures x r is_x is_r).0 c.if-is_over.true));
  over = λ x r o is_x is_r is_o conference over. refl;
  none = λ e. refl;
  others = λ k ne. refl;
}

beside : (kept : Bool) (number k : ℕ) (es fs : List (ℕ × Outgoing)) → fs ≡ cond kept (changed unended number es) es → nat_eq number k ≡ false → lookup (nat_eq k) fs ≡ lookup (nat_eq k) es
beside true number k es fs next ne = ap (λ (z : List (ℕ × Outgoing)). lookup (nat_eq k) z) next ∙ look-other unended number k es ne
beside false number k es fs next ne = ap (λ (z : List (ℕ × Outgoing)). lookup (nat_eq k) z) next

pub returns : goal.returns
returns c =
    let number = c.args.number in
    let a = c.args.attended.now in
    let b = c.keep.new.attended in
    let millis : c.lost_for-millis.result ≡ a.away.grace.lost = c.lost_for-millis.ensures.value in
    record {
      moved = kept-moves c.args.hub.now a b number (is_away c.keep.result) c.keep.ensures.outgoing
          (λ l x r is_x is_r over. absurd (not_both (sym c.if-is_over.false ∙ (c.is_over.ensures x r is_x is_r).1 over))) c.keep.ensures.own;
      away = λ e. let s = c.keep.ensures.away e in (s.0, s.1 ∙ ap (λ (z : ℕ). Some (stay_from s.0 a.time z)) millis);
      user = c.keep.ensures.user;
      leaves = λ e other. inr (inr (c.keep.ensures.leaves e other));
      over = λ x r o is_x is_r is_o conference over. absurd (not_both (sym c.if-is_over.false ∙ (c.is_over.ensures x r is_x is_r).1 over));
      none = λ zero. absurd (omega (arith, zero, millis, c.if-millis-eq0.false));
      others = λ k ne. beside (is_away c.keep.result) number k a.outgoing b.outgoing c.keep.ensures.outgoing ne;
    }
