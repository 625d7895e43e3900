use Rattle.std.proofs.Common.{List, sym, subst}
use Rattle.floor_hub.specs.declared.attached.Live.{Live}
use Rattle.floor_hub.specs.steps.Attached.{AreListed, IsBehind}
use Rattle.floor_hub.proofs.Listing.{listed-more}
use Rattle.floor_hub.proofs.attached.Attached.add.Goals as goal

pub invariant_of-self-2 : goal.invariant_of-self-2
invariant_of-self-2 c =
    subst AreListed (sym c.in_ok-push.ensures.items)
    (listed-more c.self.inside.live.items c.args.live c.self.invariant (subst (λ (z : List Live). IsBehind z c.args.live.number c.args.live.n) (sym c.self.view_is) c.requires))
