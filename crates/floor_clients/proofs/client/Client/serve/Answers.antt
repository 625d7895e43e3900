use Rattle.floor_clients.specs.Clients.{Client}
use Rattle.floor_clients.proofs.Serving.{serves}
use Rattle.floor_clients.proofs.client.Client.serve.Goals as goal

pub returns-clause-took : goal.returns-clause-took
returns-clause-took c =
    let inside : Client = record {
      mode = c.self.inside.mode;
      standing = c.self.inside.standing;
      held = c.self.inside.incoming;
      asked = c.self.inside.asked;
      outgoing = c.self.inside.outgoing;
      watched = c.self.inside.watched;
    } in
    serves c.args.is_draining c.in_ok-next.next c.in_ok-reply.reply c.args.len inside c.args.self.now c.front-line.result.now c.pass.new.self c.follow.new.asked c.follow.new.outgoing
    c.self.view_is c.requires.free c.requires.line c.requires.few c.front-line.ensures.value c.in_ok-reply.ensures.value c.pass.ensures.next
    c.in_ok-next.ensures.asked c.in_ok-next.ensures.outgoing c.in_ok-next.ensures.value
