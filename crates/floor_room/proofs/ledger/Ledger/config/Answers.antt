use Rattle.std.proofs.Common.{◌≡◌, ap, subst, ◌∙◌}
use Rattle.floor_machine.specs.Machine.{Machine}
use Rattle.floor_room.specs.Ledger as spec
use Rattle.floor_room.specs.Standing.{config_of}
use Rattle.floor_room.proofs.Standing.{unbroken}
use Rattle.floor_room.proofs.ledger.Ledger.config.Goals as goal

pub returns : goal.returns
returns c =
    record {
      value =
          subst (λ (x : spec.Ledger). c.config.result.now ≡ config_of x) c.self.view_is
          (c.config.ensures.value ∙ ap (λ (m : Machine). m.conference.config) (c.self.invariant.whole c.if-self.false) ∙ unbroken _ _ _ c.if-self.false);
    }
