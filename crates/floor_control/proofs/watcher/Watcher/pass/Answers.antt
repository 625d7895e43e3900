use Rattle.std.proofs.Common.{◌≡◌, ◌∙◌, List, Option, ap, false, ℕ}
use Rattle.floor_machine.specs.Machine.{Machine, whole}
use Rattle.floor_control.specs.Watcher as spec
use Rattle.floor_control.proofs.Following.{opened, refused-as, whole-is}
use Rattle.floor_control.proofs.watcher.Watcher.pass.Goals as goal

pub returns-in-Err-clause-refused : goal.returns-in-Err-clause-refused
returns-in-Err-clause-refused c =
    let w : spec.Watcher = c.args.self.now in
    let m : Machine = c.self.inside.machine in
    let unbroken : c.self.inside.is_broken ≡ false = ap (λ (x : spec.Watcher). x.is_broken) c.self.view_is ∙ (opened w c.in-None.ensures).unbroken in
    let is : m ≡ whole w.conference = whole-is m (c.self.invariant unbroken).whole ∙ ap (λ (x : spec.Watcher). whole x.conference) c.self.view_is in
    refused-as (Option (List ℕ)) w m c.args.event.now c.in-Err.refusal c.in-None.ensures is c.in-Err.ensures.refused
