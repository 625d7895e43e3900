use Rattle.std.proofs.Common.{refl, sym, ◌∙◌, subst}
use Rattle.floor_hub.specs.steps.Attached.{Concerned, NamedIn, live_in}
use Rattle.floor_hub.proofs.Known.{unshut}
use Rattle.floor_hub.proofs.Noting.{all-named, empty-none, nobody-noted, none-named, noted-named}
use Rattle.floor_hub.proofs.concerned.Concerned.name.Goals as goal

pub returns-then-was_shut-clause-named : goal.returns-then-was_shut-clause-named
returns-then-was_shut-clause-named c =
    let was : Concerned = record { attached = c.self.inside.attached.entries; numbers = c.self.inside.numbers.items } in
    subst (λ (h : Concerned). NamedIn c.args.was_shut c.args.room.now c.args.told.now (live_in h c.args.conference) (live_in was c.args.conference) c.clear.new.self.items) c.self.view_is
    (none-named c.args.was_shut c.args.room.now c.args.told.now (live_in was c.args.conference) (live_in was c.args.conference) c.clear.new.self.items c.if-was_shut.true refl c.clear.ensures.items)

pub returns-then-is_shut-clause-named : goal.returns-then-is_shut-clause-named
returns-then-is_shut-clause-named c =
    let was : Concerned = record { attached = c.self.inside.attached.entries; numbers = c.self.inside.numbers.items } in
    subst (λ (h : Concerned). NamedIn c.args.was_shut c.args.room.now c.args.told.now (live_in h c.args.conference) (live_in c.name_all.new.self c.args.conference) c.name_all.new.self.numbers) c.self.view_is
    (all-named c.args.was_shut c.args.room.now c.args.told.now (live_in was c.args.conference) (live_in c.name_all.new.self c.args.conference) c.name_all.new.self.numbers
    c.if-was_shut.false (sym c.is_shut.ensures ∙ c.if-is_shut.true) (c.name_all.ensures.same c.args.conference) c.name_all.ensures.named c.name_all.ensures.ascending)

pub returns-then-is_empty-2-clause-named : goal.returns-then-is_empty-2-clause-named
returns-then-is_empty-2-clause-named c =
    let was : Concerned = record { attached = c.self.inside.attached.entries; numbers = c.self.inside.numbers.items } in
    let unshut_now = sym c.is_shut.ensures ∙ c.if-is_shut.false in
    subst (λ (h : Concerned). NamedIn c.args.was_shut c.args.room.now c.args.told.now (live_in h c.args.conference) (live_in was c.args.conference) c.clear.new.self.items) c.self.view_is
    (nobody-noted c.args.was_shut c.args.room.now c.args.told.now c.cut_numbers-cut.result.now (live_in was c.args.conference) (live_in was c.args.conference) c.clear.new.self.items
    c.if-was_shut.false unshut_now (c.cut_numbers-cut.ensures.value (unshut c.args.room.now unshut_now).0)
    (empty-none c.args.told.now (sym c.is_empty.ensures ∙ c.if-is_empty.true)) (empty-none c.cut_numbers-cut.result.now (sym c.is_empty-then-is_empty.ensures ∙ c.if-is_empty-2.true)) refl c.clear.ensures.items)

pub returns-clause-named : goal.returns-clause-named
returns-clause-named c =
    let was : Concerned = record { attached = c.self.inside.attached.entries; numbers = c.self.inside.numbers.items } in
    let unshut_now = sym c.is_shut.ensures ∙ c.if-is_shut.false in
    subst (λ (h : Concerned). NamedIn c.args.was_shut c.args.room.now c.args.told.now (live_in h c.args.conference) (live_in c.name_noted.new.self c.args.conference) c.name_noted.new.self.numbers) c.self.view_is
    (noted-named c.args.was_shut c.args.room.now c.args.told.now c.cut_numbers-cut.result.now (live_in was c.args.conference) (live_in c.name_noted.new.self c.args.conference) c.name_noted.new.self.numbers
    c.if-was_shut.false unshut_now (c.cut_numbers-cut.ensures.value (unshut c.args.room.now unshut_now).0) c.name_noted.ensures.live.here c.name_noted.ensures.named)
