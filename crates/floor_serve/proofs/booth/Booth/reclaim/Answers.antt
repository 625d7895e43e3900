use Rattle.std.proofs.Common.{◌≡◌, sym, subst}
use Rattle.std.specs.Prelude.{IsSomeAnd}
use Rattle.floor_room.specs.Room.{parcels_to}
use Rattle.floor_serve.specs.Booth as spec
use Rattle.floor_serve.specs.Senders.{IsPut, sender_of}
use Rattle.floor_serve.proofs.Booths.{booth-reclaimed, number-low, reclaimed-sent}
use Rattle.floor_serve.proofs.booth.Booth.reclaim.Goals as goal

pub invariant_of-self : goal.invariant_of-self
invariant_of-self g c =
    let b : spec.Booth = record { ledger = c.self.inside.ledger; senders = c.self.inside.senders.items; waking = c.self.inside.wakers } in
    booth-reclaimed b c.args.n c.take.new.self c.self.invariant
    (subst (λ (x : spec.Booth). spec.IsGone x c.args.n) (sym c.self.view_is) c.requires.gone)
    (number-low (λ s. s.pair ≡ c.args.taker.pair) c.args.self.now.senders c.args.n c.requires.pair) c.take.ensures.after

pub returns-clause-sent : goal.returns-clause-sent
returns-clause-sent g c =
    let b : spec.Booth = record { ledger = c.self.inside.ledger; senders = c.self.inside.senders.items; waking = c.self.inside.wakers } in
    subst (λ (x : spec.Booth). IsPut (parcels_to x.ledger.config x.ledger.journal c.args.n) c.rejoin.result.put x.ledger.is_broken) c.self.view_is
    (reclaimed-sent (λ s. s.pair ≡ c.args.taker.pair) b c.args.n c.index_mut.result.now c.in-Some.sender c.rejoin.result.put c.self.invariant
    (subst (λ (x : spec.Booth). IsSomeAnd (sender_of x.senders c.args.n) (λ s. s.pair ≡ c.args.taker.pair)) (sym c.self.view_is) c.requires.pair)
    c.index_mut.ensures.value c.in-Some.ensures.value c.rejoin.ensures.put)
