use Rattle.std.proofs.Common.{rules}
use Rattle.std.proofs.lemmas.Fn.{filter_same}
use Rattle.floor_follow.specs.declared.conference.Conference.{Conference}
use Rattle.floor_follow.proofs.follower.end_list.Goals as goal

pub returns : goal.returns
returns c = record { next = filter_same _ (λ (k : Conference). k.is_listed) _ (λ x b q k. search rules) _ _ c.retain.ensures.filtered }
