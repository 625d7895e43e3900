use Rattle.std.proofs.Common.{◌≤◌, ℕ, List, length, subst}
use Rattle.floor_clients.proofs.Serving.{lent_within}
use Rattle.floor_clients.proofs.client.Client.took.Goals as goal

pub took-requires : goal.took-requires
took-requires c =
    lent_within 65536 c.lesser-count.result c.self.inside.outgoing.bytes
    (subst (λ (b : List ℕ). c.lesser-count.result ≤ length b) c.lent.ensures.value c.lesser-count.ensures.within)
