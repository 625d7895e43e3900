use Rattle.std.proofs.Common.{◌∙◌, ap, not}
use Rattle.floor_socket.specs.declared.words.Word.{Word}
use Rattle.floor_socket.specs.Words.{ascend, is_same, others}
use Rattle.floor_socket.proofs.Ascending.{ascend-filter}
use Rattle.floor_socket.proofs.words.Words.remove.Goals as goal

pub invariant_of-self : goal.invariant_of-self
invariant_of-self c =
    ap ascend c.take_out.ensures.value
    ∙ ascend-filter (λ (word : Word). not (is_same word.key c.args.key.now)) c.self.inside.items.items c.self.invariant

pub returns : goal.returns
returns c = record { value = c.take_out.ensures.value ∙ ap (others c.args.key.now) c.self.view_is }
