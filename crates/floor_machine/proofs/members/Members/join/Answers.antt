use Rattle.std.proofs.Common.{◌≡◌, ◌∙◌, ◌++◌, ◌∷◌, [], ℕ, List, true, ap, arith, refl, sym}
use Rattle.std.specs.Prelude.{is_ok}
use Rattle.floor_machine.specs.declared.member.Member.{Member}
use Rattle.floor_machine.specs.Conference.{joining, live_numbers}
use Rattle.floor_machine.specs.steps.Counting.{is_watching}
use Rattle.floor_machine.proofs.Cut.{cut-joining, still-cut}
use Rattle.floor_machine.proofs.Those.{still-those, those-joining}
use Rattle.floor_machine.proofs.Live.{live-push}
use Rattle.floor_machine.proofs.members.Members.join.Goals as goal

pub invariant_of-self-2 : goal.invariant_of-self-2
invariant_of-self-2 c =
    let ms = c.self.inside.joined.members.items in
    let m : Member = joining c.args.n c.args.user in
    let ok : is_ok c.push-pushed.result ≡ true = c.push-pushed.ensures.succeeds (omega (arith, c.in_ok-reserve.ensures.ok)) in
    let items : c.push-pushed.new.self.items ≡ c.self.inside.live.items ++ c.args.n ∷ [] =
    c.push-pushed.ensures.items ∙ rw ok (ap (λ (ns : List ℕ). ns ++ c.args.n ∷ []) c.in_ok-reserve.ensures.items) in
    record {
      live = items ∙ ap (λ (ns : List ℕ). ns ++ c.args.n ∷ []) c.self.invariant.live ∙ sym (live-push ms m refl) ∙ ap live_numbers (sym c.in_ok-push.ensures.next);
      watching = still-those is_watching c.in_ok-push.ensures.next refl
          (those-joining is_watching c.args.n c.args.user refl ms c.self.inside.watching.items c.self.invariant.watching);
      cut = still-cut c.in_ok-push.ensures.next c.push.ensures.cut (cut-joining c.args.n c.args.user ms c.self.inside.joined.cut.items c.self.invariant.cut);
    }
