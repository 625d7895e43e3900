use Rattle.std.proofs.Common.{◌≡◌, ◌++◌, ℕ, List, Some, ap, subst, ◌∙◌}
use Rattle.std.specs.Prelude.{Option}
use Rattle.floor_hub.specs.declared.connection.Connection.{Connection}
use Rattle.floor_hub.specs.Connections.{Puts}
use Rattle.floor_hub.specs.steps.Slots.{with_connection}
use Rattle.floor_hub.proofs.hub.push_at.Goals as goal

some_is : (x y : Connection) → ◌≡◌ {A = Option Connection} (Some x) (Some y) → x ≡ y
some_is x y e = cc

pub returns-in-Ok-clause-there : goal.returns-in-Ok-clause-there
returns-in-Ok-clause-there c = λ x is.
    let was : Connection = c.in-Some.connection.now in
    let made : Connection = record { conference = was.conference; n = was.n; held = c.push.new.self } in
    let same : was ≡ x = some_is c.in-Some.connection.now x (c.in-Some.ensures.found ∙ is) in
    subst (λ (z : Connection). Puts c.args.connections.now (with_connection c.args.connections.now c.args.number made) c.args.number (Some z))
    (ap (λ (h : List ℕ). record { conference = was.conference; n = was.n; held = h }) c.in-Ok.ensures.next
    ∙ ap (λ (z : Connection). record { conference = z.conference; n = z.n; held = z.held ++ c.args.bytes.now }) same)
    (c.in-Some.ensures.puts x made is)
