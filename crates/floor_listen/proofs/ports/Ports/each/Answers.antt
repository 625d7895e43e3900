use Rattle.std.proofs.Common.{◌≡◌, ◌∙◌, List, ap, map, refl, subst}
use denote.Param.Always.{mut_next}
use Rattle.std.specs.Fn.{CalledAt}
use Rattle.std.specs.List.{FoldsTo}
use Rattle.floor_listen.specs.declared.ports.Listening.{Listening}
use Rattle.floor_listen.proofs.GivenBack.{visited_first, visited_none}
use Rattle.floor_listen.proofs.ports.Ports.each.Goals as goal

pub loop-first-preserved : goal.loop-first-preserved
loop-first-preserved g c = (
  mut_next g.F.FnMut _ _ _ _ _ c.visit.ensures refl c.loop-first.invariant.0,
  λ last more.
      c.loop-first.invariant.1 last
      (visited_first (λ p x q. CalledAt g.F.FnMut p x tt q) c.in-Some.first.now c.in-Some.behind.now c.loop-first.rest.now c.loop-first.visit c.visit.new.self last c.in-Some.ensures.cases.0
      (record { shown = _; shows = refl; called = c.visit.ensures }) more),
)

pub returns : goal.returns
returns g c =
    let done = c.loop-first.invariant.1 c.loop-first.visit (visited_none (λ p x q. CalledAt g.F.FnMut p x tt q) c.loop-first.rest.now c.loop-first.visit c.in_default.ensures.cases) in
    let e : c.as_slice-rest.result.now ≡ c.args.self.now.listening = c.as_slice-rest.ensures.value ∙ ap (λ v. v.listening) c.self.view_is in
    let P : List (Listening g.row.L.Denot) → Type 0 = λ l. FoldsTo (λ p x q. CalledAt g.F.FnMut p x tt q) c.args.visit (map (λ o. o.listener) l) c.loop-first.visit in
    record { each = (c.loop-first.visit, subst P e done) }
