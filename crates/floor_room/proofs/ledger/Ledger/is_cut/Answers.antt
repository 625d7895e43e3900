use Rattle.std.proofs.Common.{◌≡◌, true, false, true≢false, ap, sym, subst, ◌∙◌}
use Rattle.floor_machine.specs.Conference.{is_cut}
use Rattle.floor_machine.specs.Machine.{Machine}
use Rattle.floor_room.specs.Ledger as spec
use Rattle.floor_room.proofs.ledger.Ledger.is_cut.Goals as goal

pub returns : goal.returns
returns c =
    record {
      value = subst (λ (x : spec.Ledger). x.is_broken ≡ false → c.is_cut.result ≡ is_cut (spec.conference_of x) c.args.n) c.self.view_is
          (λ whole. c.is_cut.ensures.value ∙ ap (λ (m : Machine). is_cut m.conference c.args.n) (c.self.invariant.whole whole));
      broken = subst (λ (x : spec.Ledger). x.is_broken ≡ true → c.is_cut.result ≡ false) c.self.view_is
          (λ broken. absurd (true≢false (sym broken ∙ c.if-self.false)));
    }
