use Rattle.std.proofs.Common.{◌+◌, ◌∙◌, ◌∷◌, [], ◌++◌, List, Option, Some, inl, length, refl, ap}
use Rattle.floor_machine.specs.declared.event.Event.TheVariants.{Join}
use Rattle.floor_room.specs.Ledger.{conference_of, refusal}
use Rattle.floor_outbox.specs.Ends.{Sender}
use Rattle.floor_serve.specs.Booth as spec
use Rattle.floor_serve.proofs.Booths.{booth-fed, booth-number, booth-unadded, refused-as}
use Rattle.floor_serve.proofs.booth.Booth.join.Goals as goal

pub invariant_of-self-in_err-out : goal.invariant_of-self-in_err-out
invariant_of-self-in_err-out g c =
    let b : spec.Booth = record { ledger = c.self.inside.ledger; senders = c.self.inside.senders.items; waking = c.self.inside.wakers } in
    booth-unadded b c.add.new.ledger c.reserve.new.self.items _ c.self.invariant c.in_err-out.ensures.left c.in_ok-reserve.ensures.items

pub returns-in_err-out-clause-refused : goal.returns-in_err-out-clause-refused
returns-in_err-out-clause-refused g c =
    inl (refused-as _ _ (refusal c.self.inside.ledger (Join c.args.user)) (refusal c.args.self.now.ledger (Join c.args.user)) c.in_err-out.field-0.0
    c.from_residual-in_err-out.result (ap (λ (x : spec.Booth). refusal x.ledger (Join c.args.user)) c.self.view_is) c.from_residual-in_err-out.ensures.1 c.in_err-out.ensures.refused)

pub invariant_of-self-in_err-feed : goal.invariant_of-self-in_err-feed
invariant_of-self-in_err-feed g c =
    let b : spec.Booth = record { ledger = c.self.inside.ledger; senders = c.self.inside.senders.items; waking = c.self.inside.wakers } in
    booth-fed b c.add.new.ledger c.feed.new.ledger (Join c.args.user) c.in_ok-out.out.items (Some c.in_ok-sender.sender ∷ []) c.push_reserved.new.self.items c.feed.new.senders.items c.feed.result
    c.self.invariant c.in_ok-out.ensures.took (c.in_ok-sender.ensures.put, tt) refl
    (c.push_reserved.ensures.items ∙ ap (λ (l : List (Option Sender)). l ++ Some c.in_ok-sender.sender ∷ []) c.in_ok-reserve.ensures.items)
    c.feed.ensures.senders c.feed.ensures.ledger c.feed.ensures.left c.feed.ensures.broken

pub invariant_of-self-2 : goal.invariant_of-self-2
invariant_of-self-2 g c =
    let b : spec.Booth = record { ledger = c.self.inside.ledger; senders = c.self.inside.senders.items; waking = c.self.inside.wakers } in
    booth-fed b c.add.new.ledger c.feed.new.ledger (Join c.args.user) c.in_ok-out.out.items (Some c.in_ok-sender.sender ∷ []) c.push_reserved.new.self.items c.feed.new.senders.items c.feed.result
    c.self.invariant c.in_ok-out.ensures.took (c.in_ok-sender.ensures.put, tt) refl
    (c.push_reserved.ensures.items ∙ ap (λ (l : List (Option Sender)). l ++ Some c.in_ok-sender.sender ∷ []) c.in_ok-reserve.ensures.items)
    c.feed.ensures.senders c.feed.ensures.ledger c.feed.ensures.left c.feed.ensures.broken

pub returns-clause-number : goal.returns-clause-number
returns-clause-number g c =
    let b : spec.Booth = record { ledger = c.self.inside.ledger; senders = c.self.inside.senders.items; waking = c.self.inside.wakers } in
    c.members.ensures
    ∙ booth-number b c.in_ok-out.out.items c.in_ok-sender.sender c.push_reserved.new.self.items c.feed.new.senders.items c.self.invariant c.in_ok-feed.ensures.senders
    (c.push_reserved.ensures.items ∙ ap (λ (l : List (Option Sender)). l ++ Some c.in_ok-sender.sender ∷ []) c.in_ok-reserve.ensures.items)
    ∙ ap (λ (x : spec.Booth). length (conference_of x.ledger).members + 1) c.self.view_is
