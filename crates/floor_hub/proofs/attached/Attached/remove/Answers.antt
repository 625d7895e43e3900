use Rattle.std.proofs.Common.{◌≡◌, List, ap, rules, sym, ◌∙◌, subst}
use Rattle.std.specs.Prelude.{◌==◌, not}
use Rattle.std.proofs.lemmas.Fn.{filter_same}
use Rattle.floor_hub.specs.declared.attached.Live.{Live}
use Rattle.floor_hub.specs.steps.Attached.{AreListed, without}
use Rattle.floor_hub.proofs.Listing.{listed-without}
use Rattle.floor_hub.proofs.attached.Attached.remove.Goals as goal

-- those that stay
kept : (c : goal.After-retain) → c.retain.new.self.items ≡ without c.args.number c.self.inside.live.items
kept c = filter_same _ (λ (live : Live). not (live.number == c.args.number)) _ (λ x b q k. search rules) _ _ c.retain.ensures.filtered

pub invariant_of-self : goal.invariant_of-self
invariant_of-self c = subst AreListed (sym (kept c)) (listed-without c.args.number c.self.inside.live.items c.self.invariant)

pub returns : goal.returns
returns c = record {
  next = kept c ∙ ap (λ (z : List Live). without c.args.number z) c.self.view_is;
}
