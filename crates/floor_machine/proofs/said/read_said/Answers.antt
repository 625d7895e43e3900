use Rattle.std.proofs.Common.{◌≡◌, ap, subst, sym, true, false, ◌∙◌}
use Rattle.std.specs.Prelude.{is_some}
use Rattle.floor_wire.specs.Header.{CommonHeader, header_of}
use Rattle.floor_message.specs.Ask.{Answer, IsAnswer, ask}
use Rattle.floor_message.specs.Binding.{binding_of}
use Rattle.floor_message.specs.Primitive.{primitive_of}
use Rattle.floor_machine.specs.Said.{sayable}
use Rattle.floor_machine.proofs.Speaking.{said-barred, said-same}
use Rattle.floor_machine.proofs.said.read_said.Goals as goal

pub returns-then-is_said-clause-value : goal.returns-then-is_said-clause-value
returns-then-is_said-clause-value c =
    let bytes = c.args.frame.now in
    let b = binding_of c.args.binding.now in
    let A : Answer → Type 0 = λ a. IsAnswer a c.read_ask-answer.result in
    let number : c.primitive.result ≡ (header_of bytes).primitive = c.primitive.ensures ∙ ap (λ (h : CommonHeader). h.primitive) c.header.ensures in
    let is : is_some (sayable (primitive_of (header_of bytes).primitive)) ≡ true =
    ap (λ n. is_some (sayable (primitive_of n))) (sym number) ∙ ap (λ p. is_some (sayable p)) (sym c.of_number.ensures) ∙ sym c.is_said.ensures ∙ c.if-is_said.true in
    subst A (sym (said-same bytes b is)) c.read_ask-answer.ensures.value

pub returns-else-is_said-clause-value : goal.returns-else-is_said-clause-value
returns-else-is_said-clause-value c =
    let bytes = c.args.frame.now in
    let b = binding_of c.args.binding.now in
    let A : Answer → Type 0 = λ a. IsAnswer a c.bar.result in
    let number : c.primitive.result ≡ (header_of bytes).primitive = c.primitive.ensures ∙ ap (λ (h : CommonHeader). h.primitive) c.header.ensures in
    let is : is_some (sayable (primitive_of (header_of bytes).primitive)) ≡ false =
    ap (λ n. is_some (sayable (primitive_of n))) (sym number) ∙ ap (λ p. is_some (sayable p)) (sym c.of_number.ensures) ∙ sym c.is_said.ensures ∙ c.if-is_said.false in
    subst A (sym (said-barred bytes b is)) (c.bar.ensures.value (ask bytes b) c.read_ask-answer.ensures.value)
