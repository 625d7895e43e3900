use Rattle.std.proofs.Common.{sym}
use Rattle.floor_machine.proofs.Found.{request_at_own}
use Rattle.floor_machine.proofs.information.settled.Settled.shown_ongoing.Goals as goal

pub invariant_of-ongoing : goal.invariant_of-ongoing
invariant_of-ongoing c = record {
  found =
      request_at_own c.args.self.now.requests.now.ongoing c.args.number c.in-Some.request.now (sym c.in-Some.ensures);
}
