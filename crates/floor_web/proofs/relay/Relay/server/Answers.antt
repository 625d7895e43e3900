use Rattle.std.proofs.Common.{ℕ, List, ◌++◌, refl, sym, ap, subst, ◌∙◌}
use Rattle.floor_web.specs.Relay.{Relay}
use Rattle.floor_web.specs.steps.Telling.{PassesOn}
use Rattle.floor_web.proofs.Calls.{tells_all, tells_some, tells_refused}
use Rattle.floor_web.proofs.Carried.{silent_keeps, server_keeps}
use Rattle.floor_web.proofs.Ends.{none_of}
use Rattle.floor_web.proofs.relay.Relay.server.Goals as goal

pub returns-then-is_over-clause-carried : goal.returns-then-is_over-clause-carried
returns-then-is_over-clause-carried c =
    silent_keeps _ _ c.args.self.now c.args.self.now _ _ _ _ (sym c.is_over.ensures ∙ c.if-is_over.true) (refl, refl, refl)

pub returns-then-not-pass_on-clause-took : goal.returns-then-not-pass_on-clause-took
returns-then-not-pass_on-clause-took c =
    let held = c.in-Ok.ensures.next ∙ ap (λ (r : Relay). r.held ++ c.args.piece.now) c.self.view_is in
    let passed = subst (λ (l : List ℕ). PassesOn c.pass_on.new.context l c.pass_on.new.held c.args.down.now.items c.pass_on.new.down.items c.pass_on.result) held c.pass_on.ensures in
    λ _. tells_some c.pass_on.new.context c.args.self.now c.finish.new.self c.args.piece.now c.pass_on.new.held c.args.down.now.items c.pass_on.new.down.items c.finish.new.down.items c.pass_on.result passed c.finish.ensures

pub returns-then-not-pass_on-clause-carried : goal.returns-then-not-pass_on-clause-carried
returns-then-not-pass_on-clause-carried c =
    let held = c.in-Ok.ensures.next ∙ ap (λ (r : Relay). r.held ++ c.args.piece.now) c.self.view_is in
    let passed = subst (λ (l : List ℕ). PassesOn c.pass_on.new.context l c.pass_on.new.held c.args.down.now.items c.pass_on.new.down.items c.pass_on.result) held c.pass_on.ensures in
    server_keeps c.args.piece.now c.args.self.now c.finish.new.self c.args.down.now.items c.finish.new.down.items (none_of c.args.self.now.end (sym c.is_over.ensures ∙ c.if-is_over.false))
    (tells_some c.pass_on.new.context c.args.self.now c.finish.new.self c.args.piece.now c.pass_on.new.held c.args.down.now.items c.pass_on.new.down.items c.finish.new.down.items c.pass_on.result passed c.finish.ensures)

pub returns-else-not-pass_on-clause-carried : goal.returns-else-not-pass_on-clause-carried
returns-else-not-pass_on-clause-carried c =
    let held = c.in-Ok.ensures.next ∙ ap (λ (r : Relay). r.held ++ c.args.piece.now) c.self.view_is in
    let passed = subst (λ (l : List ℕ). PassesOn c.pass_on.new.context l c.pass_on.new.held c.args.down.now.items c.pass_on.new.down.items c.pass_on.result) held c.pass_on.ensures in
    server_keeps c.args.piece.now c.args.self.now _ c.args.down.now.items c.pass_on.new.down.items (none_of c.args.self.now.end (sym c.is_over.ensures ∙ c.if-is_over.false))
    (tells_all c.pass_on.new.context c.args.self.now _ c.args.piece.now c.pass_on.new.held c.args.down.now.items c.pass_on.new.down.items c.pass_on.result c.if-not-pass_on.false passed
    (ap (λ (r : Relay). record { end = r.end; unread = r.unread; held = c.pass_on.new.held }) c.self.view_is))

pub returns-in-Err-clause-took : goal.returns-in-Err-clause-took
returns-in-Err-clause-took c = λ _. tells_refused c.args.self.now c.finish-in-Err.new.self c.args.piece.now c.args.down.now.items c.finish-in-Err.new.down.items c.finish-in-Err.ensures

pub returns-in-Err-clause-carried : goal.returns-in-Err-clause-carried
returns-in-Err-clause-carried c =
    server_keeps c.args.piece.now c.args.self.now c.finish-in-Err.new.self c.args.down.now.items c.finish-in-Err.new.down.items (none_of c.args.self.now.end (sym c.is_over.ensures ∙ c.if-is_over.false))
    (tells_refused c.args.self.now c.finish-in-Err.new.self c.args.piece.now c.args.down.now.items c.finish-in-Err.new.down.items c.finish-in-Err.ensures)
