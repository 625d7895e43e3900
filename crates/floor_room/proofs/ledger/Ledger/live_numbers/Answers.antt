use Rattle.std.proofs.Common.{◌≡◌, true, false, true≢false, [], ap, sym, subst, ◌∙◌}
use Rattle.floor_machine.specs.Conference.{live_numbers}
use Rattle.floor_machine.specs.Machine.{Machine}
use Rattle.floor_room.specs.Ledger as spec
use Rattle.floor_room.proofs.ledger.Ledger.live_numbers.Goals as goal

pub returns : goal.returns
returns c =
    record {
      value = subst (λ (x : spec.Ledger). x.is_broken ≡ false → c.live_numbers.result.now ≡ live_numbers (spec.conference_of x).members) c.self.view_is
          (λ whole. c.live_numbers.ensures.value ∙ ap (λ (m : Machine). live_numbers m.conference.members) (c.self.invariant.whole whole));
      broken = subst (λ (x : spec.Ledger). x.is_broken ≡ true → c.live_numbers.result.now ≡ []) c.self.view_is
          (λ broken. absurd (true≢false (sym broken ∙ c.if-self.false)));
    }
