use Rattle.std.proofs.Common.{rules, not, ◌==◌}
use Rattle.std.proofs.lemmas.Fn.{filter_same}
use Rattle.floor_socket.specs.declared.client.Behind.{Behind}
use Rattle.floor_socket.proofs.client.Seat.leave.Goals as goal

pub returns : goal.returns
returns c = record {
  behind = filter_same _ (λ (behind : Behind). not (behind.conference == c.args.conference)) _ (λ x b q k. search rules) _ _ c.retain.ensures.filtered;
}
