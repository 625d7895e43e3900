use Rattle.std.proofs.Common.{◌≡◌, ◌<◌, ◌++◌, ℕ, List, OnOk, arith, rules, false, subst}
use Rattle.std.proofs.lemmas.Fmt.{hex_byte}
use Rattle.std.specs.String.{string_bytes}
use Rattle.floor_client.proofs.pieces.put_hex.Goals as goal

pub returns : goal.returns
returns c =
    let range : c.args.byte < 256 = omega arith in
    let Appended : List ℕ → Type 0 = λ digits. OnOk c.write.result (string_bytes c.write.new.self ≡ string_bytes c.args.out.now ++ digits) in
    subst Appended (hex_byte false c.args.byte range) (search rules)
