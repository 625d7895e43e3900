use Rattle.std.proofs.Common.{◌≡◌, List, ap, rules, ◌∙◌}
use Rattle.std.specs.Prelude.{filter, not}
use Rattle.std.proofs.lemmas.Fn.{filter_same}
use Rattle.floor_follow.specs.Facts.{is_about}
use Rattle.floor_follow.specs.declared.fact.Fact.{Fact}
use Rattle.floor_follow.proofs.fact.Facts.drop_about.Goals as goal

pub returns : goal.returns
returns c = record {
  next = filter_same _ (λ (fact : Fact). not (is_about c.args.subject fact)) _ (λ x b q k. search rules) _ _ c.retain.ensures.filtered
      ∙ ap (λ (z : List Fact). filter (λ (fact : Fact). not (is_about c.args.subject fact)) z) c.self.view_is;
}
