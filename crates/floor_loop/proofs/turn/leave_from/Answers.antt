use Rattle.std.proofs.Common.{◌≡◌, ◌≢◌, ◌⊎◌, inl, inr, ℕ, true, false, ap, sym, ◌∙◌, Some, None}
use Rattle.std.specs.Prelude.{nat_eq}
use Rattle.std.proofs.lemmas.Bool.Decides.{eqb_tells}
use Rattle.std.proofs.lemmas.Option.{none-some}
use Rattle.floor_loop.specs.Away.{Away, stay_of}
use Rattle.floor_loop.specs.Loop.{Attended, outgoing_in}
use Rattle.floor_loop.specs.steps.Moved.{FewerStays, loop_of}
use Rattle.floor_loop.proofs.Calls.{moved-leave}
use Rattle.floor_loop.proofs.Sparing.{others-spared, spares-by, stay-in}
use Rattle.floor_loop.proofs.Stepping.{gone-stays, live-gone, stays-gone, wakes-on}
use Rattle.floor_loop.proofs.turn.leave_from.Goals as goal

-- who has left isn't away
left-fewer : (a b d : Attended) (number : ℕ) → stay_of b.away number ≡ None → ((k : ℕ) → nat_eq number k ≡ false → stay_of b.away k ≡ stay_of a.away k) → d.away ≡ b.away → FewerStays a d
left-fewer a b d number gone stays same k s is = by (eqb_tells number k)
  where
    there : stay_of b.away k ≡ Some s
    there = ap (λ (z : Away). stay_of z k) (sym same) ∙ is

    by : (((nat_eq number k ≡ true) × (number ≡ k)) ⊎ ((nat_eq number k ≡ false) × (number ≢ k))) → stay_of a.away k ≡ Some s
    by (inl t) = absurd (none-some s (sym gone ∙ ap (stay_of b.away) t.1 ∙ there))
    by (inr t) = sym (stays k t.0) ∙ there

pub returns : goal.returns
returns c =
    let old = loop_of c.args.hub.now c.args.attended.now in
    let new = loop_of c.leave-left.new.self c.wake.new.attended in
    let f = outgoing_in c.args.attended.now in
    let g = outgoing_in c.remove.new.self in
    let h = outgoing_in c.wake.new.attended in
    let moved =
    moved-leave c.args.number old new c.leave-left.result c.leave-left.ensures.next c.leave-left.ensures.room c.leave-left.ensures.gone c.leave-left.ensures.concerned c.leave-left.ensures.gathered
    (live-gone c.leave-left.new.self f g h c.args.number c.leave-left.ensures.gone.here c.remove.ensures.others c.wake.ensures.kept) (left-fewer c.args.attended.now c.remove.new.self c.wake.new.attended c.args.number c.remove.ensures.back c.remove.ensures.stays c.wake.ensures.away) c.wake.ensures.woken in
    record {
      moved = moved;
      spares = λ l.
          spares-by old new l.serving (stay-in c.args.hub.now c.leave-left.new.self moved.live)
          (λ k x y is_x is_y. others-spared c.leave-left.new.self c.args.attended.now c.remove.new.self c.wake.new.attended c.args.number k y c.leave-left.ensures.gone.here is_y (c.remove.ensures.others k) (c.wake.ensures.spared k));
      woke = λ l. wakes-on old new c.leave-left.ensures.concerned (stays-gone f g h c.args.number c.remove.ensures.gone c.remove.ensures.others c.wake.ensures.kept) c.wake.ensures.woken;
      left = c.leave-left.ensures.gone.here;
      others = c.leave-left.ensures.gone.others;
      back = ap (λ (z : Away). stay_of z c.args.number) c.wake.ensures.away ∙ c.remove.ensures.back;
      stays = λ k ne. ap (λ (z : Away). stay_of z k) c.wake.ensures.away ∙ c.remove.ensures.stays k ne;
      gone = gone-stays g h c.args.number c.wake.ensures.kept c.remove.ensures.gone;
    }
