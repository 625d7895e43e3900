use Rattle.std.proofs.Common.{◌≡◌, lit<, sym, subst}
use Rattle.std.specs.Prelude.{IfOk, None}
use Rattle.std.proofs.lemmas.Str.Pattern.{strip_prefix_char}
use Rattle.floor_control.proofs.WhatIsRead.{asked, unmarked}
use Rattle.floor_control.specs.Line.{line_of}
use Rattle.floor_control.proofs.reading.read_line.Goals as goal

pub returns-in-None : goal.returns-in-None
returns-in-None c =
    let line = c.args.line.now in
    let none = strip_prefix_char 64 line None c.in-None.ensures.cases (lit< tt) in
    record {
      value = subst (λ a. IfOk c.asking.result (λ asking. asking ≡ a)) (sym (unmarked line none))
          (asked c.asking.result c.read_untagged.result (line_of line) None c.asking.ensures.value c.asking.ensures.read c.read_untagged.ensures);
    }
