use Rattle.std.proofs.Common.{◌≡◌, ◌∙◌, List, ap, refl, subst}
use denote.Param.Always.{mut_next}
use Rattle.std.specs.Fn.{CalledAt}
use Rattle.std.specs.List.{FoldsTo}
use Rattle.floor_listen.specs.Connections.{sockets_of}
use Rattle.floor_listen.specs.declared.connections.Open.{Open}
use Rattle.floor_listen.proofs.Sockets.{visited_front, visited_none}
use Rattle.floor_listen.proofs.connections.Connections.each_socket.Goals as goal

pub loop-open-preserved-then-open-port : goal.loop-open-preserved-then-open-port
loop-open-preserved-then-open-port g c = (
  mut_next g.F.FnMut _ _ _ _ _ c.visit.ensures refl c.loop-open.invariant.0,
  λ last more.
      c.loop-open.invariant.1 last
      (visited_front (λ p x q. CalledAt g.F.FnMut p x tt q) c.args.port c.in-Some.open.now c.in-Some.behind.now c.loop-open.rest.now c.loop-open.visit c.visit.new.self last c.in-Some.ensures.cases.0 c.if-open-port.true
      (record { shown = _; shows = refl; called = c.visit.ensures }) more),
)

pub returns : goal.returns
returns g c =
    let done = c.loop-open.invariant.1 c.loop-open.visit (visited_none (λ p x q. CalledAt g.F.FnMut p x tt q) c.args.port c.loop-open.rest.now c.loop-open.visit c.in_default.ensures.cases) in
    let e : c.as_slice-rest.result.now ≡ c.args.self.now.sockets = c.as_slice-rest.ensures.value ∙ ap (λ v. v.sockets) c.self.view_is in
    let P : List (Open g.row.S.Denot) → Type 0 = λ l. FoldsTo (λ p x q. CalledAt g.F.FnMut p x tt q) c.args.visit (sockets_of c.args.port l) c.loop-open.visit in
    record { each = (c.loop-open.visit, subst P e done) }
