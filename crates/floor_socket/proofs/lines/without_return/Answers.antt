use Rattle.std.proofs.Common.{◌∙◌, ap, lit<, refl}
use Rattle.std.proofs.lemmas.Str.Pattern.{strip_suffix_char}
use Rattle.floor_socket.proofs.Ends.{returned}
use Rattle.floor_socket.proofs.lines.without_return.Goals as goal

pub returns : goal.returns
returns c = record {
  value =
      ap (λ x. x.now) c.unwrap_or.ensures
      ∙ returned c.args.line.now c.args.line c.strip_suffix.result refl
      (strip_suffix_char 13 c.args.line.now c.strip_suffix.result c.strip_suffix.ensures.cases (lit< tt));
}
