use Rattle.std.proofs.Common.{rules, nat_eq}
use Rattle.std.specs.Prelude.{not}
use Rattle.std.proofs.lemmas.Fn.{filter_same}
use Rattle.floor_sockets.specs.declared.deadlines.Deadline.{Deadline}
use Rattle.floor_sockets.proofs.deadlines.cancel_in.Goals as goal

pub returns-clause-next : goal.returns-clause-next
returns-clause-next c = filter_same _ (λ (d : Deadline). not (nat_eq d.slot c.args.slot)) _ (λ x b q k. search rules) _ _ c.retain.ensures.filtered
