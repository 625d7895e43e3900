use Rattle.std.proofs.Common.{ap, refl}
use Rattle.floor_connections.specs.declared.connections.Connections.{Connections}
use Rattle.floor_connections.specs.declared.entry.Entry.TheVariants.{BrokenOff}
use Rattle.floor_connections.specs.Received.{received}
use Rattle.floor_connections.proofs.Logging.{goes_same, goes_then, goes_told}
use Rattle.floor_connections.proofs.connections.Connections.break_off.Goals as goal

pub returns-then-end-clause-goes_on : goal.returns-then-end-clause-goes_on
returns-then-end-clause-goes_on c =
    let old = c.args.self.now in
    let ended : Connections = record old { conferences = c.end.new.self } in
    let told = c.tell.new.self in
    let last = c.end_ports.new.self in
    goes_then old ended last (goes_same old ended c.end.ensures.received (record { entries = refl; untold = refl }))
    (goes_then ended told last
    (goes_told (BrokenOff c.args.conference) ended told c.tell.ensures.no_fewer (λ k. ap (λ (x : Connections). received x.conferences k) c.tell.ensures.plain) c.tell.ensures.told)
    (goes_same told last c.end_ports.ensures.received c.end_ports.ensures.log))
