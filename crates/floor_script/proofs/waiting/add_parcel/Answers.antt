use Rattle.std.proofs.Common.{ℕ, List, ◌++◌, ap, ◌∙◌}
use Rattle.std.proofs.lemmas.List.{append_assoc}
use Rattle.std.specs.Prelude.{codes, string_bytes}
use Rattle.std.specs.Fmt.{decimal}
use Rattle.hex.specs.Hex.{encode_lower}
use Rattle.floor_script.proofs.Hexadecimal.{digits_in_parts, pushed_in_parts}
use Rattle.floor_script.proofs.Holding.{on_ok, pushed}
use Rattle.floor_script.proofs.waiting.add_parcel.Goals as goal

pub returns : goal.returns
returns c =
    let header = string_bytes c.in_ok-header.header in
    let payload = string_bytes c.in_ok-payload.payload in
    let number = decimal c.args.connection ++ codes " " in
    let digits =
    digits_in_parts 12 c.args.parcel.now.bytes header payload (codes "\n")
    (c.in_ok-header.ensures ∙ ap encode_lower c.header.ensures.value) (c.in_ok-payload.ensures ∙ ap encode_lower c.payload.ensures.value) in
    on_ok c.push_str-4.result _ _ (pushed c.push_str-4.result _ _ _ c.push_str-4.ensures.bytes)
    (λ e. pushed_in_parts (string_bytes c.args.text.now) _ _ _ _ _ _ _ number header payload (codes "\n")
    (c.as_str.ensures.value ∙ c.in_ok-number.ensures.ok) c.as_str-2.ensures.value c.as_str-3.ensures.value
    c.in_ok-push_str.ensures.bytes c.in_ok-push_str-2.ensures.bytes c.in_ok-push_str-3.ensures.bytes e
    ∙ ap (λ (l : List ℕ). string_bytes c.args.text.now ++ (number ++ l)) digits
    ∙ ap (λ (l : List ℕ). string_bytes c.args.text.now ++ l) (append_assoc (decimal c.args.connection) (codes " ") (encode_lower c.args.parcel.now.bytes ++ codes "\n")))
