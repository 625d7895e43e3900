use Rattle.std.proofs.Common.{◌≡◌, ℕ, ap, ◌∙◌}
use Rattle.floor_hub.specs.Hub.{Hub}
use Rattle.floor_hub.specs.StandsFor.{StandsFor}
use Rattle.floor_hub.specs.World.{World}
use Rattle.floor_loop.specs.Loop.{Attended}
use Rattle.floor_loop.specs.steps.Changed.{changed, wrote_of}
use Rattle.floor_loop.specs.steps.Moved.{loop_of}
use Rattle.floor_loop.specs.steps.Taken.{TakenFor}
use Rattle.floor_loop.specs.steps.Thrown.{Thrown}
use Rattle.floor_loop.proofs.Throwing.{thrown-both, thrown-taken, thrown-wrote}
use Rattle.floor_loop.proofs.Moving.{fewer}
use Rattle.floor_loop.proofs.turn.throw_next.Goals as goal

-- what was on its way was thrown away, and then what waits was taken
module _ (number count : ℕ) (a b d : Attended) (hub new : Hub) (threw : b ≡ record a { outgoing = changed (wrote_of count) number a.outgoing }) (stands : (w : World) → StandsFor hub w → StandsFor new w)
    (t : TakenFor number b.outgoing d.outgoing hub new) (away : d.away ≡ b.away) where
  thrown : Thrown number (loop_of hub a) (loop_of new d)
  thrown =
      thrown-both number (loop_of hub a) (loop_of hub b) (loop_of new d)
      (thrown-wrote hub a b number count (ap (λ (z : Attended). z.outgoing) threw) (fewer a b (ap (λ (z : Attended). z.away) threw)))
      (thrown-taken number b d hub new stands t (fewer b d away))

pub returns : goal.returns
returns c =
    let t = c.throw.ensures.next in
    record {
      thrown = thrown c.args.number t.0 c.args.attended.now c.throw.new.self c.take_all.new.self c.args.hub.now c.take_all.new.hub t.1 c.take_all.ensures.stands c.take_all.ensures.next c.take_all.ensures.away;
      away = c.take_all.ensures.away ∙ ap (λ (z : Attended). z.away) t.1;
    }
