use Rattle.std.proofs.Common.{◌≡◌, ℕ, [], ◌∷◌, ◌++◌, List, Option, Some, None, map, refl, sym, ap, ◌∙◌, append-nil}
use Rattle.std.specs.Prelude.{option_and_then}
use Rattle.floor_machine.specs.declared.member.Member.{Member}
use Rattle.floor_machine.specs.declared.replied.Replied.{Replied}
use Rattle.floor_machine.specs.declared.tell.changed.Update.{Update}
use Rattle.floor_machine.specs.Parcel.{Parcel}
use Rattle.floor_machine.specs.steps.Counting.{counted_of, members_at, members_each, told_at, told_each, told_of_all}
use Rattle.floor_machine.specs.steps.Telling.{noticed_to, noticed_to_all}
use Rattle.floor_machine.proofs.Asked.{on_ok}
use Rattle.floor_machine.proofs.Noticed.{own-noticed}
use Rattle.floor_machine.proofs.Sender.{IsAlone, members-alone, members-nobody, reply-alone, reply-nobody, told-alone, told-nobody}
use Rattle.floor_machine.proofs.members.Members.tell_sender.Goals as goal

-- the sender alone
alone-told : (to : Member → List Parcel) (ns : List ℕ) (n : ℕ) (ms : List Member) → ns ≡ n ∷ [] → told_each to ns ms ≡ told_at to n ms
alone-told to ns n ms same = ap (λ (ks : List ℕ). told_each to ks ms) same ∙ append-nil (told_at to n ms)

alone-counted : (to : Member → List Parcel) (ns : List ℕ) (n : ℕ) (ms : List Member) → ns ≡ n ∷ [] → members_each to ns ms ≡ members_at to n ms
alone-counted to ns n ms same = ap (λ (ks : List ℕ). members_each to ks ms) same

-- a reply to n is due to n alone
alone-of : (conference : ℕ) (o : Option Replied) (n : ℕ) → option_and_then (λ r. r.n) o ≡ Some n → IsAlone (noticed_to conference o [] []) n
alone-of conference None n sent = cc
alone-of conference (Some reply) n sent = reply-alone conference reply n sent

pub invariant_of-self : goal.invariant_of-self
invariant_of-self c = record { live = c.self.invariant.live ∙ sym c.tell_each.ensures.live; watching = c.tell_each.ensures.watching _ c.self.invariant.watching; cut = c.tell_each.ensures.cut c.self.invariant.cut }

pub returns-in-Some-clause-told : goal.returns-in-Some-clause-told
returns-in-Some-clause-told c =
    let conference = c.args.conference in
    let out = c.args.out.now.items in
    let ms = c.self.inside.joined.members.items in
    let reply = c.args.reply.now in
    let alone : IsAlone (noticed_to conference reply [] []) c.in-Some.n = alone-of conference reply c.in-Some.n (sym c.sender_of.ensures ∙ c.in-Some.is) in
    on_ok c.tell_each.result (λ told. told
    ∙ ap (λ (ps : List Parcel). out ++ ps) (alone-told _ _ c.in-Some.n ms refl)
    ∙ ap (λ (us : List Update). out ++ told_at (noticed_to conference reply us []) c.in-Some.n ms) c.new-none.ensures
    ∙ ap (λ (ps : List Parcel). out ++ ps)
    (told-alone (noticed_to conference reply [] []) c.in-Some.n alone (own-noticed conference reply [] []) ms c.self.inside.joined.numbered)
    ∙ ap (λ (xs : List Member). out ++ told_of_all (noticed_to_all conference reply [] [] xs) xs) c.self.view_is)
    c.tell_each.ensures.told

pub returns-in-Some-clause-counted : goal.returns-in-Some-clause-counted
returns-in-Some-clause-counted c =
    let conference = c.args.conference in
    let ms = c.self.inside.joined.members.items in
    let reply = c.args.reply.now in
    let alone : IsAlone (noticed_to conference reply [] []) c.in-Some.n = alone-of conference reply c.in-Some.n (sym c.sender_of.ensures ∙ c.in-Some.is) in
    on_ok c.tell_each.result (λ counted. counted
    ∙ alone-counted _ _ c.in-Some.n ms refl
    ∙ ap (λ (us : List Update). members_at (noticed_to conference reply us []) c.in-Some.n ms) c.new-none.ensures
    ∙ members-alone (noticed_to conference reply [] []) c.in-Some.n alone (own-noticed conference reply [] []) ms c.self.inside.joined.numbered
    ∙ ap (λ (xs : List Member). map (counted_of (noticed_to_all conference reply [] [] xs)) xs) c.self.view_is)
    c.tell_each.ensures.counted

pub returns-in-None-clause-told : goal.returns-in-None-clause-told
returns-in-None-clause-told c =
    let conference = c.args.conference in
    let out = c.args.out.now.items in
    let ms = c.args.self.now in
    let reply = c.args.reply.now in
    sym (ap (λ (ps : List Parcel). out ++ ps) (told-nobody (noticed_to conference reply [] []) (reply-nobody conference reply (sym c.sender_of.ensures ∙ c.in-None.is)) ms)
    ∙ append-nil out)

pub returns-in-None-clause-counted : goal.returns-in-None-clause-counted
returns-in-None-clause-counted c =
    let conference = c.args.conference in
    let ms = c.args.self.now in
    let reply = c.args.reply.now in
    sym (members-nobody (noticed_to conference reply [] []) (reply-nobody conference reply (sym c.sender_of.ensures ∙ c.in-None.is)) ms)
