use Rattle.std.proofs.Common.{◌≡◌, ℕ, ◌+◌, ◌++◌, ◌∙◌, List, Option, ap, false, subst}
use Rattle.std.specs.String.{string_bytes}
use Rattle.floor_machine.specs.declared.event.Event.{Event}
use Rattle.floor_machine.specs.Change.{IsLawful}
use Rattle.floor_machine.specs.Conference.{Conference}
use Rattle.floor_machine.specs.Machine.{Machine, infos_changed, whole}
use Rattle.floor_machine.specs.Next.{next}
use Rattle.floor_control.specs.Watch.{watched}
use Rattle.floor_control.specs.Watcher as spec
use Rattle.floor_control.proofs.Following.{lines-watched, opened, refused-as, whole-is}
use Rattle.floor_control.proofs.watcher.Watcher.next.Goals as goal

pub returns-in-Err-clause-refused : goal.returns-in-Err-clause-refused
returns-in-Err-clause-refused c =
    let w : spec.Watcher = c.args.self.now in
    let m : Machine = c.self.inside.machine in
    let unbroken : c.self.inside.is_broken ≡ false = ap (λ (x : spec.Watcher). x.is_broken) c.self.view_is ∙ (opened w c.in-None.ensures).unbroken in
    let is : m ≡ whole w.conference = whole-is m (c.self.invariant unbroken).whole ∙ ap (λ (x : spec.Watcher). whole x.conference) c.self.view_is in
    refused-as (Option (List ℕ)) w m c.args.event.now c.in-Err.refusal c.in-None.ensures is c.in-Err.ensures.refused

pub returns-clause-took : goal.returns-clause-took
returns-clause-took c =
    let w : spec.Watcher = c.args.self.now in
    let m : Machine = c.self.inside.machine in
    let s : Conference = m.conference in
    let now : Machine = c.apply.new.self in
    let e : Event = c.args.event.now in
    let p : ℕ = c.self.inside.place in
    let unbroken : c.self.inside.is_broken ≡ false = ap (λ (x : spec.Watcher). x.is_broken) c.self.view_is ∙ (opened w c.in-None.ensures).unbroken in
    let text : List ℕ = string_bytes c.args.out.now in
    let after : now.conference ≡ next s e = ap (λ (x : Machine). x.conference) c.in-Ok.ensures.took.next in
    let changed : c.deref-3.result.now ≡ infos_changed s e =
    c.deref-3.ensures.value ∙ c.in-Ok.ensures.changed in
    record {
      lawful = subst (λ (x : spec.Watcher). IsLawful x.conference e) c.self.view_is c.in-Ok.ensures.took.lawful;
      next =
          ap (λ (x : Machine). record { conference = x.conference; place = p + 1; is_broken = false }) c.in-Ok.ensures.took.next
          ∙ ap (λ (x : spec.Watcher). spec.with_event x e) c.self.view_is;
      lines =
          c.in_ok-add.ensures
          ∙ ap (λ (x : List ℕ). text ++ x)
          (lines-watched s now.conference e c.conference.result (p + 1) (c.joins.result + 1) c.leaver-leaver.result c.deref-3.result.now c.deref.result.now c.deref-2.result.now c.deref-4.result.now
          (c.conference.ensures.value ∙ ap (λ x. x.conference) c.config.ensures.value)
          (ap (λ (n : ℕ). n + 1) c.joins.ensures.value)
          c.leaver-leaver.ensures changed after
          (c.deref-4.ensures.value ∙ c.in_ok-news.ensures)
          (c.deref.ensures.value ∙ (c.self.invariant unbroken).cut)
          (c.deref-2.ensures.value ∙ c.in_ok-cut.ensures))
          ∙ ap (λ (x : spec.Watcher). text ++ watched (x.place + 1) x.conference e) c.self.view_is;
    }
