use Rattle.std.proofs.Common.{◌∙◌, length, sym, subst}
use Rattle.std.specs.Prelude.{IfOk}
use Rattle.floor_proxy.specs.Header.{IsWithin}
use Rattle.floor_proxy.proofs.Cuts.{other-signature, signature-front, signature-whole, within}
use Rattle.floor_proxy.proofs.header.read_proxy.Goals as goal

pub returns-then-not-agrees-clause-value : goal.returns-then-not-agrees-clause-value
returns-then-not-agrees-clause-value c = sym (other-signature c.args.named_by c.args.bytes.now (sym c.agrees.ensures.value ∙ c.if-not-agrees.true))

pub returns-in-None-clause-value : goal.returns-in-None-clause-value
returns-in-None-clause-value c = sym (signature-front c.args.named_by c.args.bytes.now (sym c.agrees.ensures.value ∙ c.if-not-agrees.false) c.in-None.ensures.cases)

pub returns-in-Some-clause-value : goal.returns-in-Some-clause-value
returns-in-Some-clause-value c =
    c.behind_signature.ensures.value
    ∙ sym (signature-whole c.args.named_by c.args.bytes.now c.in-Some.rest.now (sym c.agrees.ensures.value ∙ c.if-not-agrees.false) c.in-Some.ensures.cases.2)

pub returns-in-Some-clause-within : goal.returns-in-Some-clause-within
returns-in-Some-clause-within c =
    let value = c.behind_signature.ensures.value
    ∙ sym (signature-whole c.args.named_by c.args.bytes.now c.in-Some.rest.now (sym c.agrees.ensures.value ∙ c.if-not-agrees.false) c.in-Some.ensures.cases.2) in
    subst (λ answer. IfOk answer (IsWithin (length c.args.bytes.now))) (sym value) (within c.args.named_by c.args.bytes.now)
