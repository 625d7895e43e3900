use Rattle.std.proofs.Common.{◌∙◌, ap, length}
use Rattle.floor_kept.proofs.Heads.{written_head}
use Rattle.floor_kept.proofs.head.head_of.Goals as goal

pub returns : goal.returns
returns c =
    let text = c.in_ok-text.ensures in
    record {
      value = written_head _ _ _ text.0 c.in_ok-head.head.config c.in_ok-head.head.bytes c.in_ok-head.head.lines c.in_ok-document.ensures text.1 text.2
          (rw c.as_str.ensures.value at c.in_ok-head.ensures.value) (c.if-head-as_str.false ∙ ap length c.as_str-2.ensures.value);
    }
