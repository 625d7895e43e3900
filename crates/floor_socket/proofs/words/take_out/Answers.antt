use Rattle.std.proofs.Common.{rules, not}
use Rattle.std.proofs.lemmas.Fn.{filter_same}
use Rattle.floor_socket.specs.declared.words.Word.{Word}
use Rattle.floor_socket.specs.Words.{is_same}
use Rattle.floor_socket.proofs.words.take_out.Goals as goal

pub returns : goal.returns
returns c = record {
  value = filter_same _ (λ (word : Word). not (is_same word.key c.args.key.now)) _ (λ x b q k. search rules) _ _ c.retain.ensures.filtered;
}
