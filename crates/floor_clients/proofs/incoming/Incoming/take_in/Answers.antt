use Rattle.floor_clients.proofs.Searching.{grown_by}
use Rattle.floor_clients.proofs.incoming.Incoming.take_in.Goals as goal

pub invariant_of-self : goal.invariant_of-self
invariant_of-self c =
    grown_by c.extend_from_slice.result c.self.inside.searched c.self.inside.held.items c.args.bytes.now c.extend_from_slice.new.self.items
    c.self.invariant c.extend_from_slice.ensures.ok c.extend_from_slice.ensures.err
