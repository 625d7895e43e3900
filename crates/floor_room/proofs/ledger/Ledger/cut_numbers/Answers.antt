use Rattle.std.proofs.Common.{◌≡◌, true, false, true≢false, [], sym, subst, ◌∙◌}
use Rattle.floor_machine.specs.Conference.{AreCut}
use Rattle.floor_machine.specs.Machine.{Machine}
use Rattle.floor_room.specs.Ledger as spec
use Rattle.floor_room.proofs.ledger.Ledger.cut_numbers.Goals as goal

pub returns : goal.returns
returns c =
    record {
      value = subst (λ (x : spec.Ledger). x.is_broken ≡ false → AreCut (spec.conference_of x).members c.cut_numbers.result.now) c.self.view_is
          (λ whole. subst (λ (m : Machine). AreCut m.conference.members c.cut_numbers.result.now) (c.self.invariant.whole whole) c.cut_numbers.ensures.value);
      broken = subst (λ (x : spec.Ledger). x.is_broken ≡ true → c.cut_numbers.result.now ≡ []) c.self.view_is
          (λ broken. absurd (true≢false (sym broken ∙ c.if-self.false)));
    }
