use Rattle.std.proofs.Common.{ℕ, List, ap, ◌∙◌, sym}
use Rattle.std.specs.Prelude.{◌==◌, filter, not}
use Rattle.floor_machine.specs.Conference.{live_numbers}
use Rattle.floor_machine.proofs.Live.{live-leaving}
use Rattle.floor_machine.specs.steps.Counting.{is_watching}
use Rattle.floor_machine.proofs.Cut.{cut-leaving, still-cut}
use Rattle.floor_machine.proofs.Those.{still-those, those-leaving}
use Rattle.floor_machine.proofs.members.Members.leave.Goals as goal

pub invariant_of-self : goal.invariant_of-self
invariant_of-self c =
    let ms = c.self.inside.joined.members.items in
    let cut : List ℕ = c.self.inside.joined.cut.items in
    record {
      live = c.take_number.ensures ∙ ap (filter (λ k. not (k == c.args.n))) c.self.invariant.live ∙ sym (live-leaving c.args.n ms) ∙ ap live_numbers (sym c.leave.ensures.members);
      watching = still-those is_watching c.leave.ensures.members c.take_number-2.ensures
          (those-leaving is_watching c.args.n ms c.self.inside.watching.items c.self.invariant.watching);
      cut = still-cut c.leave.ensures.members (c.take_number-3.ensures ∙ ap (filter (λ k. not (k == c.args.n))) c.leave.ensures.cut)
          (cut-leaving c.args.n ms cut c.self.invariant.cut);
    }
