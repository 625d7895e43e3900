use Rattle.std.proofs.Common.{ℕ, Bool, List, ap, length, refl, ◌∙◌, sym}
use Rattle.std.specs.Prelude.{◌==◌, ◌&&◌, is_some, not}
use Rattle.floor_machine.specs.steps.Counting.{is_watching, noted_if}
use Rattle.floor_machine.proofs.Those.{still-those}
use Rattle.floor_machine.proofs.Watchers.{those-watching}
use Rattle.floor_machine.specs.Change.{watching}
use Rattle.floor_machine.specs.Conference.{live_numbers, member_with}
use Rattle.floor_machine.proofs.Live.{live-watching}
use Rattle.floor_machine.proofs.Cut.{cut-same, cut-watching, live-watching-one, n-watching, still-cut}
use Rattle.floor_machine.proofs.members.Members.watch.Goals as goal

pub invariant_of-self : goal.invariant_of-self
invariant_of-self c =
    let ms = c.self.inside.joined.members.items in
    record {
      live = c.self.invariant.live;
      watching = still-those is_watching refl c.in_err-put_number.ensures.left c.self.invariant.watching;
      cut = c.self.invariant.cut;
    }

pub invariant_of-self-2 : goal.invariant_of-self-2
invariant_of-self-2 c =
    let ms = c.self.inside.joined.members.items in
    let cut : List ℕ = c.self.inside.joined.cut.items in
    record {
      live = c.self.invariant.live ∙ sym (live-watching c.args.n _ ms) ∙ ap live_numbers (sym c.watch.ensures.members);
      watching = still-those is_watching c.watch.ensures.members
          (c.in_ok-put_number.ensures.next ∙ ap (λ (b : Bool). noted_if b c.args.n c.self.inside.watching.items) (c.is_to_watch-is_watching.ensures ∙ ap (λ (fs : List ℕ). is_some (member_with ms c.args.n) && not (length fs == 0)) c.as_slice.ensures))
          (those-watching c.args.n c.args.floors ms c.self.inside.watching.items c.self.invariant.watching);
      cut = still-cut c.watch.ensures.members c.watch.ensures.cut
          (cut-same (watching c.args.n c.args.floors) (n-watching c.args.n c.args.floors) (live-watching-one c.args.n c.args.floors) (cut-watching c.args.n c.args.floors) ms cut c.self.invariant.cut);
    }
