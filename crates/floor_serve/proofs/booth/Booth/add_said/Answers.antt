use Rattle.std.proofs.Common.{[], refl, sym, ap, append-nil}
use Rattle.floor_serve.specs.Booth as spec
use Rattle.floor_machine.specs.declared.event.Event.TheVariants.{Say}
use Rattle.floor_room.specs.Ledger.{refusal}
use Rattle.floor_serve.proofs.Booths.{booth-fed, booth-unadded, refused-as}
use Rattle.floor_serve.proofs.booth.Booth.add_said.Goals as goal

pub invariant_of-self : goal.invariant_of-self
invariant_of-self g c =
    let b : spec.Booth = record { ledger = c.self.inside.ledger; senders = c.self.inside.senders.items; waking = c.self.inside.wakers } in
    booth-unadded b c.say.new.ledger c.self.inside.senders.items _ c.self.invariant c.in_err-called.ensures.left refl

pub invariant_of-self-2 : goal.invariant_of-self-2
invariant_of-self-2 g c =
    let b : spec.Booth = record { ledger = c.self.inside.ledger; senders = c.self.inside.senders.items; waking = c.self.inside.wakers } in
    booth-fed b c.say.new.ledger c.feed.new.ledger (Say c.args.user c.args.frame) c.in_ok-called.called.parcels.items [] c.self.inside.senders.items c.feed.new.senders.items c.feed.result
    c.self.invariant c.in_ok-called.ensures.took tt refl (sym (append-nil c.self.inside.senders.items))
    c.feed.ensures.senders c.feed.ensures.ledger c.feed.ensures.left c.feed.ensures.broken

pub invariant_of-self-in_err-feed : goal.invariant_of-self-in_err-feed
invariant_of-self-in_err-feed g c =
    let b : spec.Booth = record { ledger = c.self.inside.ledger; senders = c.self.inside.senders.items; waking = c.self.inside.wakers } in
    booth-fed b c.say.new.ledger c.feed.new.ledger (Say c.args.user c.args.frame) c.in_ok-called.called.parcels.items [] c.self.inside.senders.items c.feed.new.senders.items c.feed.result
    c.self.invariant c.in_ok-called.ensures.took tt refl (sym (append-nil c.self.inside.senders.items))
    c.feed.ensures.senders c.feed.ensures.ledger c.feed.ensures.left c.feed.ensures.broken

pub returns-in_err-called-clause-refused : goal.returns-in_err-called-clause-refused
returns-in_err-called-clause-refused g c =
    refused-as _ _ (refusal c.self.inside.ledger (Say c.args.user c.args.frame)) (refusal c.args.self.now.ledger (Say c.args.user c.args.frame)) c.in_err-called.field-0.0
    c.from_residual.result (ap (λ (x : spec.Booth). refusal x.ledger (Say c.args.user c.args.frame)) c.self.view_is) c.from_residual.ensures.1 c.in_err-called.ensures.refused
