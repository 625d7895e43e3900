use Rattle.std.proofs.Common.{rules, ◌≡◌, ◌∙◌, ℕ, ap, nat_eq}
use Rattle.std.specs.Prelude.{filter, not}
use Rattle.std.specs.List.{list_any}
use Rattle.std.proofs.lemmas.Fn.{filter_same}
use Rattle.floor_connections.proofs.Users.{none_left, others_left}
use Rattle.floor_connections.proofs.conferences.let_in_again.Goals as goal

pub returns-clause-gone : goal.returns-clause-gone
returns-clause-gone c =
    let left : c.retain.new.self.items ≡ filter (λ u. not (nat_eq u c.args.user)) c.args.removed.now.items = filter_same _ (λ (u : ℕ). not (nat_eq u c.args.user)) _ (λ x b q k. search rules) _ _ c.retain.ensures.filtered in
    ap (list_any (nat_eq c.args.user)) left ∙ none_left c.args.user c.args.removed.now.items

pub returns-clause-others : goal.returns-clause-others
returns-clause-others c = λ u ne.
    let left : c.retain.new.self.items ≡ filter (λ u. not (nat_eq u c.args.user)) c.args.removed.now.items = filter_same _ (λ (u : ℕ). not (nat_eq u c.args.user)) _ (λ x b q k. search rules) _ _ c.retain.ensures.filtered in
    ap (list_any (nat_eq u)) left ∙ others_left c.args.user u c.args.removed.now.items ne
