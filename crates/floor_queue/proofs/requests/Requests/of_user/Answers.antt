use Rattle.std.proofs.Common.{◌∙◌, ap}
use Rattle.std.specs.Prelude.{filter}
use Rattle.floor_queue.specs.Queue.{Queue, involves, numbers_of}
use Rattle.floor_queue.proofs.requests.Requests.of_user.Goals as goal

pub returns : goal.returns
returns c = c.from_vec.ensures ∙ c.in_ok-numbers.ensures ∙ c.self.invariant.3.each c.args.user ∙ ap (λ (q : Queue). numbers_of (filter (λ r. involves r c.args.user) q.ongoing)) c.self.view_is
