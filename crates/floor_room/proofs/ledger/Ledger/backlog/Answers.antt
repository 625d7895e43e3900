use Rattle.std.proofs.Common.{◌≡◌, ap, subst, ◌∙◌}
use Rattle.floor_machine.specs.Conference.{backlog}
use Rattle.floor_machine.specs.Machine.{Machine}
use Rattle.floor_room.specs.Ledger as spec
use Rattle.floor_room.specs.Standing.{backlog_of}
use Rattle.floor_room.proofs.Standing.{unbroken}
use Rattle.floor_room.proofs.ledger.Ledger.backlog.Goals as goal

pub returns : goal.returns
returns c =
    record {
      value =
          subst (λ (x : spec.Ledger). c.backlog.result ≡ backlog_of x c.args.n) c.self.view_is
          (c.backlog.ensures.value ∙ ap (λ (m : Machine). backlog m.conference c.args.n) (c.self.invariant.whole c.if-self.false) ∙ unbroken _ _ _ c.if-self.false);
    }
