use Rattle.std.proofs.Common.{ℕ, List, ap, ◌∙◌}
use Rattle.floor_clients.specs.Clients.{Client}
use Rattle.floor_clients.proofs.Serving.{served_from}
use Rattle.floor_clients.proofs.client.Client.next.Goals as goal

pub returns-in-Some-clause-took : goal.returns-in-Some-clause-took
returns-in-Some-clause-took c =
    let with : List ℕ → Client = λ l. record {
      mode = c.self.inside.mode;
      standing = c.self.inside.standing;
      held = l;
      asked = c.self.inside.asked;
      outgoing = c.self.inside.outgoing;
      watched = c.self.inside.watched;
    } in
    served_from c.serve.result c.args.is_draining c.args.self.now _ _ (ap with c.find.ensures.same ∙ c.self.view_is) c.serve.ensures.took
