use Rattle.std.proofs.Common.{rules, tests, ◌∙◌, ◌+◌, ◌-◌, ◌^◌, ap, sym, length, take, drop, Option, Some, ℕ}
use Rattle.std.proofs.lemmas.Iterator.{YieldsList-from_slice}
use Rattle.std.proofs.lemmas.Iterator.Search.{position_from_yields_List}
use Rattle.floor_proxy.specs.Name.{both, is_dot, numeral}
use Rattle.floor_proxy.proofs.Numerals.{at_dot, no_dot}
use Rattle.floor_proxy.proofs.name.read_name.Goals as goal

pub returns-in_err-dot : goal.returns-in_err-dot
returns-in_err-dot c =
    let found = position_from_yields_List is_dot _ _ c.position.result c.position.ensures.ran (YieldsList-from_slice c.args.bytes.now (cc)) (λ x b q k. search (rules, tests)) in
    record { value = c.from_residual.ensures ∙ sym (no_dot c.args.bytes.now (sym found ∙ c.in_err-dot.was)) }

pub returns-in_err-conference : goal.returns-in_err-conference
returns-in_err-conference c =
    let bytes = c.args.bytes.now in
    let dot = c.in_ok-dot.dot in
    let found = position_from_yields_List is_dot _ _ c.position.result c.position.ensures.ran (YieldsList-from_slice bytes (cc)) (λ x b q k. search (rules, tests)) in
    let user : Option ℕ = numeral (2 ^ 16) (take (length bytes - (dot + 1)) (drop (dot + 1) bytes)) in
    record {
      value =
          c.from_residual-in_err-conference.ensures
          ∙ sym (at_dot bytes dot (sym found ∙ c.in_ok-dot.was) ∙ ap (λ (o : Option ℕ). both o user) (sym c.in_err-conference.ensures.value));
    }

pub returns-in_err-user : goal.returns-in_err-user
returns-in_err-user c =
    let bytes = c.args.bytes.now in
    let dot = c.in_ok-dot.dot in
    let found = position_from_yields_List is_dot _ _ c.position.result c.position.ensures.ran (YieldsList-from_slice bytes (cc)) (λ x b q k. search (rules, tests)) in
    let user : Option ℕ = numeral (2 ^ 16) (take (length bytes - (dot + 1)) (drop (dot + 1) bytes)) in
    record {
      value =
          c.from_residual-in_err-user.ensures
          ∙ sym (at_dot bytes dot (sym found ∙ c.in_ok-dot.was) ∙ ap (λ (o : Option ℕ). both o user) (sym c.in_ok-conference.ensures.value) ∙ ap (both (Some c.in_ok-conference.conference)) (sym c.in_err-user.ensures.value));
    }

pub returns : goal.returns
returns c =
    let bytes = c.args.bytes.now in
    let dot = c.in_ok-dot.dot in
    let found = position_from_yields_List is_dot _ _ c.position.result c.position.ensures.ran (YieldsList-from_slice bytes (cc)) (λ x b q k. search (rules, tests)) in
    let user : Option ℕ = numeral (2 ^ 16) (take (length bytes - (dot + 1)) (drop (dot + 1) bytes)) in
    record {
      value = sym (at_dot bytes dot (sym found ∙ c.in_ok-dot.was) ∙ ap (λ (o : Option ℕ). both o user) (sym c.in_ok-conference.ensures.value) ∙ ap (both (Some c.in_ok-conference.conference)) (sym c.in_ok-user.ensures.value));
    }
