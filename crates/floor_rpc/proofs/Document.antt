-- A value's one spelling is read as that value.
use Rattle.std.proofs.Common.{◌≡◌, ◌≤◌, [], ◌∙◌, ap, sym}
use Rattle.std.specs.Prelude.{Some, option_and_then}
use Rattle.std.proofs.lemmas.List.{append-nil}
use Rattle.json.specs.Json.{Json, document, if_last, max_depth, value}
use Rattle.json.specs.Lex.{tokens}
use Rattle.json.specs.Print.{print}
use Rattle.json.specs.Tree.{depth, json_tokens}
use Rattle.json.proofs.Printed.Trees.{value-json_tokens}

pub document_tokens : (j : Json) → tokens (print (json_tokens j)) ≡ json_tokens j → depth j ≤ max_depth → document (print (json_tokens j)) ≡ Some j
document_tokens j read shallow =
    ap (option_and_then (λ p. if_last p.0 p.1))
    (ap (value max_depth) (read ∙ sym (append-nil (json_tokens j))) ∙ value-json_tokens j max_depth [] shallow)
