-- What is answered by the header's checks, and behind them.
use Rattle.std.proofs.Common.{◌≡◌, ℕ, List, [], drop, Option, Some, None, Err, sym, ◌∙◌, ap, subst}
use Rattle.std.specs.Prelude.{Result}
use Rattle.floor_wire.specs.Header.{CommonHeader, header_of}
use Rattle.floor_wire.specs.Spelled.{spelled}
use Rattle.floor_message.specs.Binding.{Binding}
use Rattle.floor_message.specs.Primitive.{primitive_of}
use Rattle.floor_message.specs.Ask.{Answer, ask, IsAnswer}
use Rattle.floor_message.specs.steps.Answering.{by_header, by_primitive, header_refusal}
use Rattle.floor_message.proofs.Checked.{answer_by_steps}
use Rattle.floor_message.specs.declared.primitive.Primitive.{Primitive}
use Rattle.floor_message.specs.declared.code.ErrorCode.{ErrorCode}
use Rattle.floor_message.specs.declared.ask.Ask.{Ask}
use Rattle.floor_message.specs.declared.ask.AskFault.{AskFault}
use Rattle.floor_message.specs.declared.ask.AskFault.TheVariants as fault

-- an error of the header is answered
pub by_header_refused : (m : List ℕ) (b : Binding) (h : CommonHeader) (code : ErrorCode) (e : AskFault) → h ≡ header_of m → Some code ≡ header_refusal h b
    → e ≡ fault.Error code [] → IsAnswer (ask m b) (Err e)
unfolding ask
by_header_refused m b h code e is found made =
    let P : AskFault → Type 0 = λ x. IsAnswer (ask m b) (Err x) in
    subst P (sym made)
    (answer_by_steps (header_of m) b (spelled (drop 12 m)) ∙ ap (λ r. by_header r (primitive_of (header_of m).primitive) (spelled (drop 12 m))) (ap (λ x. header_refusal x b) (sym is) ∙ sym found))

-- behind the header's checks the primitive decides
pub by_header_passed : (m : List ℕ) (b : Binding) (h : CommonHeader) (payload : List ℕ) (p : Option Primitive) (r : Result (Option Ask) AskFault) → h ≡ header_of m
    → None ≡ header_refusal h b → payload ≡ drop 12 m → p ≡ primitive_of h.primitive → IsAnswer (by_primitive p (spelled payload)) r → IsAnswer (ask m b) r
unfolding ask
by_header_passed m b h payload p r is found rest told done =
    let P : Answer → Type 0 = λ a. IsAnswer a r in
    let same : by_primitive p (spelled payload) ≡ ask m b =
    ap (λ x. by_primitive x (spelled payload)) (told ∙ ap (λ x. primitive_of x.primitive) is)
    ∙ ap (λ s. by_primitive (primitive_of (header_of m).primitive) (spelled s)) rest
    ∙ ap (λ c. by_header c (primitive_of (header_of m).primitive) (spelled (drop 12 m))) (found ∙ ap (λ x. header_refusal x b) is)
    ∙ sym (answer_by_steps (header_of m) b (spelled (drop 12 m))) in
    subst P same done
