use Rattle.std.proofs.Common.{sym, subst}
use Rattle.floor_serve.specs.Booth as spec
use Rattle.floor_serve.proofs.Booths.{booth-released}
use Rattle.floor_serve.proofs.booth.Booth.release.Goals as goal

pub invariant_of-self : goal.invariant_of-self
invariant_of-self c =
    let b : spec.Booth = record { ledger = c.self.inside.ledger; senders = c.self.inside.senders.items; waking = c.self.inside.wakers } in
    booth-released b c.args.n c.let_go.new.senders.items c.self.invariant
    (subst (λ (x : spec.Booth). spec.IsGone x c.args.n) (sym c.self.view_is) c.requires.gone) c.let_go.ensures
