use Rattle.std.proofs.Common.{◌≡◌, ap, subst, ◌∙◌}
use Rattle.floor_machine.specs.Machine.{Machine}
use Rattle.floor_machine.specs.Reply.{infos}
use Rattle.floor_room.specs.Ledger as spec
use Rattle.floor_room.specs.Standing.{shown_of}
use Rattle.floor_room.proofs.Standing.{unbroken}
use Rattle.floor_room.proofs.ledger.Ledger.shown.Goals as goal

pub returns : goal.returns
returns c =
    record {
      value =
          subst (λ (x : spec.Ledger). c.shown.result.now ≡ shown_of x) c.self.view_is
          (c.shown.ensures.value (ap (λ (m : Machine). m.is_broken) (c.self.invariant.whole c.if-self.false))
          ∙ ap (λ (m : Machine). infos m.conference) (c.self.invariant.whole c.if-self.false)
          ∙ unbroken _ _ _ c.if-self.false);
    }
