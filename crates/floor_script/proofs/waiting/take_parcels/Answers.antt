use Rattle.std.proofs.Common.{◌≡◌, ◌<◌, ℕ, List, subst, sym, arith, ◌∙◌}
use Rattle.std.specs.Prelude.{string_bytes}
use Rattle.floor_script.specs.State.{most_at_once}
use Rattle.floor_script.specs.steps.Taking.{TakenAll}
use Rattle.floor_script.proofs.Emptying.{far_end, far_full, far_more, far_none}
use Rattle.floor_script.proofs.Most.{most_is}
use Rattle.floor_script.proofs.waiting.take_parcels.Goals as goal

pub loop-taken-init : goal.loop-taken-init
loop-taken-init c = far_none c.args.connection _ _

pub loop-taken-preserved : goal.loop-taken-preserved
loop-taken-preserved c =
    far_more c.args.connection c.loop-taken.taken c.in-Some.parcel _ _ _ _ _ _ c.loop-taken.invariant c.in-Some.ensures.took c.in_ok-add_parcel-in-Some.ensures

pub returns-in-None : goal.returns-in-None
returns-in-None c =
    let few : c.loop-taken.taken < most_at_once = omega (arith, most_is) in
    record { took = far_end c.args.connection c.loop-taken.taken _ _ _ _ _ c.loop-taken.invariant few c.in-None.ensures.took }

pub returns : goal.returns
returns c =
    let full : c.loop-taken.taken ≡ most_at_once = omega (arith, most_is) in
    record { took = λ k. subst (λ (n : ℕ). TakenAll c.args.connection n c.args.hub.now c.loop-taken.hub (string_bytes c.args.text.now) (string_bytes c.loop-taken.text)) most_is (far_full c.args.connection c.loop-taken.taken _ _ _ _ c.loop-taken.invariant full) }
