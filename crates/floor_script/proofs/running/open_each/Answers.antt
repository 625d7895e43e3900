use Rattle.std.proofs.Common.{◌∷◌, ◌++◌, [], List, length, sym, ap, subst, ◌∙◌, append_assoc, append-nil, arith}
use Rattle.std.proofs.lemmas.List.{nil_from_length}
use Rattle.std.specs.Vec.Iter.{into_iter_items}
use Rattle.floor_config.specs.Configuration.{Configuration}
use Rattle.floor_script.specs.steps.Running.{opened_all}
use Rattle.floor_script.specs.steps.Standing.{Leads}
use Rattle.floor_script.proofs.Outcomes.{opened_more, opened_none}
use Rattle.floor_script.proofs.running.open_each.Goals as goal

pub loop-config-init : goal.loop-config-init
loop-config-init c =
    let gives = c.into_iter-config-iterator.ensures.into_iter_gives in
    record {
      all = sym gives.0;
      count = omega (arith, gives.1, ap length gives.0, c.args.configs.ok.0);
      opened = opened_none _;
    }

pub loop-config-preserved : goal.loop-config-preserved
loop-config-preserved c =
    let before = c.loop-config.invariant in
    let steps = c.in-Some.ensures.steps in
    record {
      all = before.all
          ∙ ap (λ (ps : List Configuration). c.loop-config.yielded ++ ps) steps.0
          ∙ sym (append_assoc c.loop-config.yielded (c.in-Some.config ∷ []) (into_iter_items c.next.new.self));
      count = omega (arith, before.count, steps.1, ap length steps.0);
      opened = opened_more c.loop-config.yielded c.in-Some.config _ _ _ before.opened c.in_ok-open.ensures.took;
    }

pub returns : goal.returns
returns c =
    let at = c.loop-config in
    let none = nil_from_length (into_iter_items at.config-iterator) (sym at.invariant.count ∙ c.in-None.ensures.steps.0) in
    let all = at.invariant.all ∙ ap (λ (ps : List Configuration). at.yielded ++ ps) none ∙ append-nil at.yielded in
    record { took = subst (λ (ps : List Configuration). Leads (opened_all ps) c.args.conferences.now at.conferences) (sym all) at.invariant.opened }
