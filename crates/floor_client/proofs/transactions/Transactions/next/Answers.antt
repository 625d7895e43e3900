use Rattle.std.proofs.Common.{◌≡◌, ℕ, ◌+◌, ◌%◌, true, sym, ap, subst, ◌∙◌, arith, below_more}
use Rattle.floor_client.proofs.Turns.{places_of}
use Rattle.floor_client.specs.Transactions.{Transactions, is_open, number_after}
use Rattle.floor_client.proofs.transactions.Transactions.next.Goals as goal

pub returns-then-not-is_open : goal.returns-then-not-is_open
returns-then-not-is_open c =
    let last_is : c.from-last.result ≡ c.args.self.now.last = c.from-last.ensures ∙ ap (λ (t : Transactions). t.last) c.self.view_is in
    record {
      places = c.loop-places.places;
      behind = ap (λ (last : ℕ). number_after last c.loop-places.places) last_is;
      free = sym c.is_open.ensures ∙ c.if-not-is_open.true;
      first = c.loop-places.invariant;
    }

pub returns : goal.returns
returns c = λ number some few.
    let found = places_of c.args.self.now.last number some few in
    let IsOpen : ℕ → Type 0 = λ n. is_open c.args.self.now.open_numbers n ≡ true in
    subst IsOpen found.2 (c.loop-places.invariant found.0 (omega (arith, found.1)))

pub loop-places-preserved : goal.loop-places-preserved
loop-places-preserved c =
    let last_is : c.from-last.result ≡ c.args.self.now.last = c.from-last.ensures ∙ ap (λ (t : Transactions). t.last) c.self.view_is in
    let IsOpen : ℕ → Type 0 = λ last. is_open c.args.self.now.open_numbers (number_after last c.loop-places.places) ≡ true in
    below_more _ _ c.loop-places.invariant (subst IsOpen last_is (sym c.is_open.ensures ∙ c.if-not-is_open.false))
