-- What the log is told.
use Rattle.std.proofs.Common.{◌≡◌, ◌≤◌, ◌+◌, ℕ, List, [], ◌∷◌, ◌++◌, inl, inr, sym, ap, ◌∙◌, append_assoc, append-nil, arith, subst}
use Rattle.std.specs.Prelude.{min}
use Rattle.floor_connections.specs.declared.connections.Connections.{Connections}
use Rattle.floor_connections.specs.declared.entry.Entry.{Entry}
use Rattle.floor_connections.specs.declared.entry.Entry.TheVariants.{Large}
use Rattle.floor_connections.specs.declared.conferences.Conferences.{Conferences}
use Rattle.floor_connections.specs.Conferences.{conference_at}
use Rattle.floor_connections.specs.Log.{GoesOn, IsTold, Receives, SameLog}
use Rattle.floor_connections.specs.Received.{IsReached, NoneIsReached, SameReceived, more_received, received}

same_count : (a b : ℕ) → b ≡ a → a ≤ b
same_count a b is = omega (arith, is)

then_count : (a b c : ℕ) → a ≤ b → b ≤ c → a ≤ c
then_count a b c first next = omega (arith, first, next)

-- nothing
pub goes_same : (old new : Connections) → SameReceived old.conferences new.conferences → SameLog old new → GoesOn old new
goes_same old new received log = record { received = received; more = []; entries = log.entries ∙ sym (append-nil old.entries.items); untold = same_count old.untold new.untold log.untold }

-- one entry
pub goes_told : (entry : Entry) (old new : Connections) → old.untold ≤ new.untold → SameReceived old.conferences new.conferences → IsTold entry old new → GoesOn old new
goes_told entry old new untold received (inl told) = record { received = received; more = entry ∷ []; entries = told.0; untold = untold }
goes_told entry old new untold received (inr told) = record { received = received; more = []; entries = told.0 ∙ sym (append-nil old.entries.items); untold = untold }

-- those, and then these
pub goes_then : (a b c : Connections) → GoesOn a b → GoesOn b c → GoesOn a c
goes_then a b c first next = record {
  received = λ conference. next.received conference ∙ first.received conference;
  more = first.more ++ next.more;
  entries = next.entries ∙ ap (λ (xs : List Entry). xs ++ next.more) first.entries ∙ append_assoc a.entries.items first.more next.more;
  untold = then_count a.untold b.untold c.untold first.untold next.untold;
}

told_from : (entry : Entry) (a b c : Connections) → SameLog a b → IsTold entry b c → IsTold entry a c
told_from entry a b c same (inl told) = inl (told.0 ∙ ap (λ (xs : List Entry). xs ++ entry ∷ []) same.entries, told.1 ∙ same.untold)
told_from entry a b c same (inr told) = inr (told.0 ∙ same.entries, told.1 ∙ ap (λ (n : ℕ). min (n + 1) 18446744073709551615) same.untold)

-- what was received behind nothing was received
pub receives_from : (conference count : ℕ) (a b c : Connections) → b.conferences ≡ a.conferences → SameLog a b → Receives conference count b c → Receives conference count a c
receives_from conference count a b c same log took = record {
  counted = λ known at. took.counted known (ap (λ (cs : Conferences). conference_at cs conference) same ∙ at) ∙ ap (λ (cs : Conferences). more_received count (received cs conference)) same;
  others = λ k other. took.others k other ∙ ap (λ (cs : Conferences). received cs k) same;
  told = elim took.told [
    | inl none ↦ inl (subst (λ (cs : Conferences). NoneIsReached (received cs conference) (received c.conferences conference)) same none.0, record { entries = none.1.entries ∙ log.entries; untold = none.1.untold ∙ log.untold })
    | inr some ↦ inr (some.0, subst (λ (cs : Conferences). IsReached (received cs conference) (received c.conferences conference) some.0) same some.1, told_from (Large conference some.0) a b c log some.2)
  ];
}
