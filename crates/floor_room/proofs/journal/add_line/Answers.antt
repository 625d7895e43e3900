use Rattle.std.proofs.Common.{◌++◌, ℕ, List, ap, sym, ◌∙◌, rules}
use Rattle.std.specs.Prelude.{codes, string_bytes}
use Rattle.std.specs.Fmt.{decimal}
use Rattle.std.proofs.lemmas.Result.{on_ok_weaker}
use Rattle.hex.specs.Hex.{encode_lower}
use Rattle.floor_room.specs.Text.{line}
use Rattle.floor_room.proofs.journal.add_line.Goals as goal

pub returns-in_ok-bytes-in-Message : goal.returns-in_ok-bytes-in-Message
returns-in_ok-bytes-in-Message c =
    let before : List ℕ = string_bytes c.args.text.now in
    let written : List ℕ → List ℕ = λ bs. decimal c.args.place ++ (codes " message " ++ (decimal c.in-Message.n ++ (codes " " ++ (bs ++ codes "\n")))) in
    on_ok_weaker c.write-in-Message.result
    (λ h. h ∙ ap (λ (bs : List ℕ). before ++ bs) (ap written (c.in_ok-bytes-in-Message.ensures ∙ ap encode_lower c.bytes.ensures.value) ∙ sym (ap (line c.args.place) c.in-Message.is)))
    (search rules)

pub returns-in_ok-bytes-in-Say : goal.returns-in_ok-bytes-in-Say
returns-in_ok-bytes-in-Say c =
    let before : List ℕ = string_bytes c.args.text.now in
    let written : List ℕ → List ℕ = λ bs. decimal c.args.place ++ (codes " say " ++ (decimal c.in-Say.user ++ (codes " " ++ (bs ++ codes "\n")))) in
    on_ok_weaker c.write-in-Say.result
    (λ h. h ∙ ap (λ (bs : List ℕ). before ++ bs) (ap written (c.in_ok-bytes-in-Say.ensures ∙ ap encode_lower c.bytes-in-Say.ensures.value) ∙ sym (ap (line c.args.place) c.in-Say.is)))
    (search rules)
