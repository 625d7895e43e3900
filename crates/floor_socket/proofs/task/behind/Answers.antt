use Rattle.std.proofs.Common.{◌∙◌, ap, drop}
use Rattle.std.proofs.lemmas.List.{drop_min, take_rest}
use Rattle.floor_socket.proofs.task.behind.Goals as goal

pub returns : goal.returns
returns c = record {
  value = take_rest c.args.bytes.now c.min.result ∙ ap (λ n. drop n c.args.bytes.now) c.min.ensures ∙ drop_min 32768 c.args.bytes.now;
}
