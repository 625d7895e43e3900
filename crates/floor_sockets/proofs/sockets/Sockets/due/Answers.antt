use Rattle.std.proofs.Common.{subst}
use Rattle.floor_sockets.specs.Sockets.{IsBounded, Sockets}
use Rattle.floor_sockets.proofs.sockets.Sockets.due.Goals as goal

pub returns-clause-kept : goal.returns-clause-kept
returns-clause-kept c = subst (λ (s : Sockets). IsBounded s) c.self.view_is (record { turns = c.self.invariant.once; deadlines = c.self.invariant.few })
