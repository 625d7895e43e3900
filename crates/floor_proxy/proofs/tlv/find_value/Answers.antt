use Rattle.std.proofs.Common.{◌≡◌, ◌∙◌, ap, sym, List, Option, ℕ, length, eqb-true}
use Rattle.std.specs.Prelude.{option_map}
use Rattle.floor_proxy.specs.Tlv.{Tlv, tlvs, value_in}
use Rattle.floor_proxy.specs.steps.Finding.{with_found}
use Rattle.floor_proxy.proofs.Parts.{found_all, found_step}
use Rattle.floor_proxy.proofs.tlv.find_value.Goals as goal

pub tlv-preserved : goal.tlv-preserved
tlv-preserved c =
    let kind = c.args.kind in
    let found : Option (List ℕ) = option_map (λ v. v.now) c.tlv.found in
    let behind : List ℕ = c.in-Some.first.behind.now in
    let first : Tlv = record { kind = c.in-Some.first.kind; value = c.in-Some.first.value.now } in
    ap (λ (f : Option (List ℕ)). with_found f (value_in kind (tlvs behind))) c.kept-found.ensures.value
    ∙ sym (found_step kind found first (tlvs behind))
    ∙ ap (λ (o : Option (List Tlv)). with_found found (value_in kind o)) (sym c.in-Some.ensures.value.whole)
    ∙ c.tlv.invariant

pub returns : goal.returns
returns c =
    let none : length c.tlv.rest.now ≡ 0 = eqb-true (length c.tlv.rest.now) 0 (sym c.is_empty.ensures ∙ c.tlv-test.false) in
    record { value = sym (found_all c.args.kind (option_map (λ v. v.now) c.tlv.found) c.tlv.rest.now none) ∙ c.tlv.invariant }
