use Rattle.std.proofs.Common.{◌≡◌, ◌∙◌, ap, rules}
use Rattle.std.specs.Prelude.{◌==◌, not, filter}
use Rattle.std.proofs.lemmas.Fn.{filter_same}
use Rattle.floor_queue.specs.declared.index.parties.Party.{Party}
use Rattle.floor_queue.specs.steps.Parties.{by_user}
use Rattle.floor_queue.proofs.Parting.{by_user-filter}
use Rattle.floor_queue.proofs.index.parties.Parties.end.Goals as goal

pub invariant_of-self-else-is_empty : goal.invariant_of-self-else-is_empty
invariant_of-self-else-is_empty c =
    let items : c.retain.new.self.items ≡ filter (λ (p : Party). not (p.number == c.args.number)) c.self.inside.parties.items =
    filter_same _ (λ (p : Party). not (p.number == c.args.number)) _ (λ x b q k. search rules) _ _ c.retain.ensures.filtered in
    ap by_user items ∙ by_user-filter (λ (p : Party). not (p.number == c.args.number)) c.self.inside.parties.items c.self.invariant

pub returns-then-is_empty : goal.returns-then-is_empty
returns-then-is_empty c =
    let items : c.retain.new.self.items ≡ filter (λ (p : Party). not (p.number == c.args.number)) c.self.inside.parties.items =
    filter_same _ (λ (p : Party). not (p.number == c.args.number)) _ (λ x b q k. search rules) _ _ c.retain.ensures.filtered in
    c.shrink_to_fit.ensures.items ∙ items ∙ ap (filter (λ (p : Party). not (p.number == c.args.number))) c.self.view_is

pub returns-else-is_empty : goal.returns-else-is_empty
returns-else-is_empty c =
    let items : c.retain.new.self.items ≡ filter (λ (p : Party). not (p.number == c.args.number)) c.self.inside.parties.items =
    filter_same _ (λ (p : Party). not (p.number == c.args.number)) _ (λ x b q k. search rules) _ _ c.retain.ensures.filtered in
    items ∙ ap (filter (λ (p : Party). not (p.number == c.args.number))) c.self.view_is
