use Rattle.std.proofs.Common.{List, ℕ, ◌++◌, ap, sym, ◌∙◌}
use Rattle.std.specs.Prelude.{codes, string_bytes}
use Rattle.hex.specs.Hex.{encode_lower}
use Rattle.floor_script.specs.Answered.{said_line}
use Rattle.floor_script.proofs.Hexadecimal.{digits_in_parts}
use Rattle.floor_script.proofs.Holding.{ok_as}
use Rattle.floor_script.proofs.conferences.said_line.Goals as goal

pub returns-in_ok-payload-in-Some : goal.returns-in_ok-payload-in-Some
returns-in_ok-payload-in-Some c =
    let header = string_bytes c.in_ok-header-in-Some.header in
    let payload = string_bytes c.in_ok-payload-in-Some.payload in
    let digits =
    digits_in_parts 12 c.in-Some.reply header payload (codes "\n")
    (c.in_ok-header-in-Some.ensures ∙ ap encode_lower c.header.ensures.value) (c.in_ok-payload-in-Some.ensures ∙ ap encode_lower c.payload.ensures.value) in
    ok_as c.format.result _ _ c.format.ensures.ok (λ text e. e ∙ ap (λ (l : List ℕ). codes "said " ++ l) digits ∙ ap said_line (sym c.in-Some.is))
