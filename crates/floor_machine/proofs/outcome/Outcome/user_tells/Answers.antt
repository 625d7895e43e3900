use Rattle.std.proofs.Common.{rules, subst, sym, ◌∙◌}
use Rattle.std.specs.Prelude.{unwrap_or}
use Rattle.floor_message.specs.Shown.{AreShown}
use Rattle.floor_machine.specs.steps.Telling.{shows_user}
use Rattle.floor_machine.proofs.Fitting.{infos_shown, some_fit}
use Rattle.floor_machine.proofs.Users.{infos-involved}
use Rattle.floor_machine.proofs.outcome.Outcome.user_tells.Goals as goal

pub one-requires : goal.one-requires
one-requires c =
    let s = c.self.inside.state.now in
    let shown : AreShown c.deref.result.now = subst AreShown (sym c.deref.ensures.value) (infos_shown s.config s.requests.ongoing s.shown.items c.self.invariant.0.shows c.ongoing-ongoing.ensures.kept.few) in
    (c.in_ok-who.ensures.shown, subst AreShown (sym (c.from_vec-infos.ensures ∙ c.in_ok-infos.ensures)) (some_fit (shows_user c.unwrap_or.result) c.deref.result.now shown))

pub returns-clause-value : goal.returns-clause-value
returns-clause-value c =
    let s = c.self.inside.state.now in
    rw (← c.self.view_is, ← infos-involved s.config s.requests.ongoing (unwrap_or c.args.beneficiary c.args.user) s.shown.items c.self.invariant.0.shows.infos) (search rules)
