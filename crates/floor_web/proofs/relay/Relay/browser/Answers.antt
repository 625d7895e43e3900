use Rattle.std.proofs.Common.{ℕ, List, ◌++◌, refl, sym, ap, ◌∙◌}
use Rattle.floor_web.specs.Relay.{Relay}
use Rattle.floor_web.proofs.Calls.{hears_pushed, hears_refused}
use Rattle.floor_web.proofs.Carried.{silent_keeps, browser_keeps}
use Rattle.floor_web.proofs.Ends.{none_of}
use Rattle.floor_web.proofs.relay.Relay.browser.Goals as goal

pub returns-then-is_over-clause-carried : goal.returns-then-is_over-clause-carried
returns-then-is_over-clause-carried c =
    silent_keeps _ _ c.args.self.now c.args.self.now _ _ _ _ (sym c.is_over.ensures ∙ c.if-is_over.true) (refl, refl, refl)

pub returns-in-Ok-clause-carried : goal.returns-in-Ok-clause-carried
returns-in-Ok-clause-carried c =
    let pushed = ap (λ (l : List ℕ). record { end = c.self.inside.end; unread = l; held = c.self.inside.held }) c.in-Ok.ensures.ok
    ∙ ap (λ (r : Relay). record { end = r.end; unread = r.unread ++ c.args.piece.now; held = r.held }) c.self.view_is in
    browser_keeps c.args.piece.now c.args.self.now c.hear.new.self c.args.up.now.items c.hear.new.up.items c.args.down.now.items c.hear.new.down.items (none_of c.args.self.now.end (sym c.is_over.ensures ∙ c.if-is_over.false))
    (hears_pushed c.args.self.now _ c.hear.new.self c.args.piece.now c.args.up.now.items c.hear.new.up.items c.args.down.now.items c.hear.new.down.items pushed c.hear.ensures)

pub returns-in-Err-clause-took : goal.returns-in-Err-clause-took
returns-in-Err-clause-took c = λ _. hears_refused c.args.self.now c.finish.new.self c.args.piece.now c.args.up.now.items c.args.down.now.items c.finish.new.down.items c.finish.ensures

pub returns-in-Err-clause-carried : goal.returns-in-Err-clause-carried
returns-in-Err-clause-carried c =
    browser_keeps c.args.piece.now c.args.self.now c.finish.new.self c.args.up.now.items c.args.up.now.items c.args.down.now.items c.finish.new.down.items (none_of c.args.self.now.end (sym c.is_over.ensures ∙ c.if-is_over.false))
    (hears_refused c.args.self.now c.finish.new.self c.args.piece.now c.args.up.now.items c.args.down.now.items c.finish.new.down.items c.finish.ensures)
