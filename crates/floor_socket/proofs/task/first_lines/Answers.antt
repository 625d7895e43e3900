use Rattle.std.proofs.Common.{◌∙◌, ap, subst, sym, take}
use Rattle.std.specs.Str.{IsCharBoundary}
use Rattle.floor_socket.proofs.Cuts.{cut}
use Rattle.floor_socket.proofs.task.first_lines.Goals as goal

pub returns-clause-value : goal.returns-clause-value
returns-clause-value c =
    c.front_of.ensures.value (subst (IsCharBoundary c.args.text.now) (sym c.lines_len.ensures.value) (cut c.args.text.now c.utf8.text))
    ∙ ap (λ len. take len c.args.text.now) c.lines_len.ensures.value

pub returns-clause-behind : goal.returns-clause-behind
returns-clause-behind c = cut c.args.text.now c.utf8.text
