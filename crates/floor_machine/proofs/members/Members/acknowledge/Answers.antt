use Rattle.std.proofs.Common.{ℕ, List, ap, refl, ◌∙◌, sym}
use Rattle.floor_machine.specs.Change.{acknowledging}
use Rattle.floor_machine.specs.Conference.{live_numbers}
use Rattle.floor_machine.specs.steps.Counting.{is_watching}
use Rattle.floor_machine.proofs.Counting.{live-counted}
use Rattle.floor_machine.proofs.Cut.{cut-acknowledging, cut-same, still-cut}
use Rattle.floor_machine.proofs.Sent.{live-acknowledging, n-acknowledging}
use Rattle.floor_machine.proofs.Those.{still-those, those-same}
use Rattle.floor_machine.proofs.Watchers.{watching-acknowledging}
use Rattle.floor_machine.proofs.members.Members.acknowledge.Goals as goal

pub invariant_of-self : goal.invariant_of-self
invariant_of-self c =
    let ms = c.self.inside.joined.members.items in
    let cut : List ℕ = c.self.inside.joined.cut.items in
    record {
      live = c.self.invariant.live ∙ sym (live-counted (acknowledging c.args.n c.args.k) (n-acknowledging c.args.n c.args.k) (live-acknowledging c.args.n c.args.k) ms) ∙ ap live_numbers (sym c.acknowledge.ensures.members);
      watching = still-those is_watching c.acknowledge.ensures.members refl
          (those-same is_watching (acknowledging c.args.n c.args.k) (n-acknowledging c.args.n c.args.k) (live-acknowledging c.args.n c.args.k) (watching-acknowledging c.args.n c.args.k) ms c.self.inside.watching.items c.self.invariant.watching);
      cut = still-cut c.acknowledge.ensures.members c.acknowledge.ensures.cut
          (cut-same (acknowledging c.args.n c.args.k) (n-acknowledging c.args.n c.args.k) (live-acknowledging c.args.n c.args.k) (cut-acknowledging c.args.n c.args.k) ms cut c.self.invariant.cut);
    }
