use Rattle.std.proofs.Common.{refl, ap, ◌∙◌}
use Rattle.floor_connections.specs.declared.departure.Departure.TheVariants.{Refused}
use Rattle.floor_connections.specs.declared.table.Table.{Table}
use Rattle.floor_connections.specs.Table.{announced_of, is_member, socket_at}
use Rattle.floor_turn.proofs.Entering.{kept_announced, kept_members}
use Rattle.floor_connections.proofs.Logging.{goes_same}
use Rattle.floor_turn.proofs.hearing.note.Goals as goal

pub returns-in-None-clause-member : goal.returns-in-None-clause-member
returns-in-None-clause-member c = kept_members c.args.socket (Refused c.in-Err.refusal) c.args.connections.now.table c.end.new.self c.end.ensures.here c.end.ensures.others

pub returns-in-Some-clause-member : goal.returns-in-Some-clause-member
returns-in-Some-clause-member c = λ k. ap (λ (t : Table). is_member (socket_at t k)) c.break_off.ensures.table ∙ kept_members c.args.socket (Refused c.in-Err.refusal) c.args.connections.now.table c.end.new.self c.end.ensures.here c.end.ensures.others k

pub returns-in-None-clause-announced : goal.returns-in-None-clause-announced
returns-in-None-clause-announced c = kept_announced c.args.socket (Refused c.in-Err.refusal) c.args.connections.now.table c.end.new.self c.end.ensures.here c.end.ensures.others

pub returns-in-Some-clause-announced : goal.returns-in-Some-clause-announced
returns-in-Some-clause-announced c = λ k. ap (λ (t : Table). announced_of (socket_at t k)) c.break_off.ensures.table ∙ kept_announced c.args.socket (Refused c.in-Err.refusal) c.args.connections.now.table c.end.new.self c.end.ensures.here c.end.ensures.others k

pub returns-in-Ok-clause-goes_on : goal.returns-in-Ok-clause-goes_on
returns-in-Ok-clause-goes_on c = goes_same c.args.connections.now c.args.connections.now (λ k. refl) (record { entries = refl; untold = refl })

pub returns-in-None-clause-goes_on : goal.returns-in-None-clause-goes_on
returns-in-None-clause-goes_on c = goes_same c.args.connections.now (record c.args.connections.now { table = c.end.new.self }) (λ k. refl) (record { entries = refl; untold = refl })

pub returns-in-Some-clause-goes_on : goal.returns-in-Some-clause-goes_on
returns-in-Some-clause-goes_on c =
    let next = c.break_off.ensures.goes_on in
    record { received = next.received; more = next.more; entries = next.entries; untold = next.untold }
