use Rattle.std.proofs.Common.{ℕ, ◌++◌, List, map, ap, sym, ◌∙◌}
use Rattle.floor_machine.specs.declared.member.Member.{Member}
use Rattle.floor_machine.specs.Parcel.{Parcel}
use Rattle.floor_machine.specs.steps.Counting.{counted_of, members_each, told_each, told_of_all}
use Rattle.floor_machine.specs.steps.Telling.{noticed_to, noticed_to_all}
use Rattle.floor_machine.proofs.Asked.{on_ok}
use Rattle.floor_machine.proofs.Counting.{members-each, told-each}
use Rattle.floor_machine.proofs.Noticed.{own-noticed}
use Rattle.floor_machine.proofs.members.Members.tell.Goals as goal

pub invariant_of-self : goal.invariant_of-self
invariant_of-self c = record { live = c.self.invariant.live ∙ sym c.tell_each.ensures.live; watching = c.tell_each.ensures.watching _ c.self.invariant.watching; cut = c.tell_each.ensures.cut c.self.invariant.cut }

pub returns-clause-told : goal.returns-clause-told
returns-clause-told c =
    let a = c.args in
    let due = a.due.now in
    let to : Member → List Parcel = noticed_to due.conference due.reply.now due.updates.now due.notices.now in
    let ms = c.self.inside.joined.members.items in
    on_ok c.tell_each.result (λ told. told
    ∙ ap (λ (ns : List ℕ). a.out.now.items ++ told_each to ns ms) (c.deref.ensures.value ∙ c.self.invariant.live)
    ∙ ap (λ (ps : List Parcel). a.out.now.items ++ ps) (told-each to (own-noticed due.conference due.reply.now due.updates.now due.notices.now) ms c.self.inside.joined.numbered)
    ∙ ap (λ (xs : List Member). a.out.now.items ++ told_of_all (noticed_to_all due.conference due.reply.now due.updates.now due.notices.now xs) xs) c.self.view_is)
    c.tell_each.ensures.told

pub returns-clause-counted : goal.returns-clause-counted
returns-clause-counted c =
    let a = c.args in
    let due = a.due.now in
    let to : Member → List Parcel = noticed_to due.conference due.reply.now due.updates.now due.notices.now in
    let ms = c.self.inside.joined.members.items in
    on_ok c.tell_each.result (λ counted. counted
    ∙ ap (λ (ns : List ℕ). members_each to ns ms) (c.deref.ensures.value ∙ c.self.invariant.live)
    ∙ members-each to (own-noticed due.conference due.reply.now due.updates.now due.notices.now) ms c.self.inside.joined.numbered
    ∙ ap (λ (xs : List Member). map (counted_of (noticed_to_all due.conference due.reply.now due.updates.now due.notices.now xs)) xs) c.self.view_is)
    c.tell_each.ensures.counted
