use Rattle.std.proofs.Common.{◌≡◌, ◌∙◌, ap, rules, subst, sym, drop, ◌^◌, ◌<◌, length}
use Rattle.std.specs.Prelude.{string_bytes}
use Rattle.std.specs.Str.{IsCharBoundary}
use Rattle.floor_socket.proofs.Cuts.{behind_lines}
use Rattle.floor_socket.proofs.task.Task.next_text.Goals as goal

pub returns-clause-next : goal.returns-clause-next
returns-clause-next c = λ whole.
    let rest : c.rest_of.result.now ≡ drop c.args.self.now.at (string_bytes c.args.self.now.text) =
    c.rest_of.ensures.value (subst (λ text. IsCharBoundary text c.args.self.now.at) (sym c.as_str.ensures.value) whole)
    ∙ ap (drop c.args.self.now.at) c.as_str.ensures.value in
    let fits : length (string_bytes c.args.self.now.text) < 2 ^ 64 = search rules in
    let moved = behind_lines (string_bytes c.args.self.now.text) c.rest_of.result.now c.first_lines-lines.result.now c.args.self.now.at
    c.saturating_add-self.result whole rest c.first_lines-lines.ensures.value c.first_lines-lines.ensures.behind fits c.saturating_add-self.ensures in
    let same = c.let_go.ensures.value moved.1 in
    record { tag = same.tag; step = same.step; begun = same.begun; left = same.left ∙ moved.0; whole = same.whole }
