use Rattle.std.proofs.Common.{ap, ◌∙◌, sym}
use Rattle.std.specs.Prelude.{◌≡◌, ℕ, Option, Some}
use Rattle.floor_connections.specs.Announced.{announcing}
use Rattle.floor_connections.specs.Table.{announced_of, socket_at}
use Rattle.floor_connections.proofs.Hearing.{heard_announced, heard_members}
use Rattle.floor_connections.proofs.connections.Connections.own_len.Goals as goal

pub returns-in-Some-clause-here : goal.returns-in-Some-clause-here
returns-in-Some-clause-here c =
    let bytes = c.args.bytes.now in
    let old = socket_at c.args.self.now.table c.args.slot in
    let heard : announced_of (socket_at c.pass.new.self c.args.slot) ≡ announcing (Some c.in-Some.longest) bytes (announced_of old) = ap announced_of c.pass.ensures.here ∙ heard_announced c.in-Some.longest bytes old in
    heard ∙ ap (λ (o : Option ℕ). announcing o bytes (announced_of old)) (sym c.in-Some.is)

pub returns-in-Some-clause-members : goal.returns-in-Some-clause-members
returns-in-Some-clause-members c = heard_members c.args.slot c.in-Some.longest c.args.bytes.now c.args.self.now.table c.pass.new.self c.pass.ensures.here c.pass.ensures.others
