use Rattle.std.proofs.Common.{rules}
use Rattle.std.specs.Prelude.{◌==◌, not}
use Rattle.std.proofs.lemmas.Fn.{filter_same}
use Rattle.floor_follow.specs.declared.conference.Conference.{Conference}
use Rattle.floor_follow.proofs.follower.drop_conference.Goals as goal

pub returns : goal.returns
returns c = record { next = filter_same _ (λ (k : Conference). not (k.number == c.args.number)) _ (λ x b q k. search rules) _ _ c.retain.ensures.filtered }
