-- What requests do to the meetings of the server.
use Rattle.std.proofs.Common.{◌≡◌, ◌++◌, ◌∙◌, ℕ, List, [], ◌∷◌, ap, append-nil, refl, subst, sym}
use Rattle.floor_meetings.specs.Runs.{Call, bytes_by}
use Rattle.floor_meetings.specs.declared.meetings.Meetings.{Meetings}
use Rattle.floor_turn.specs.Moves.{Leads, Moves, nothing_taken}
use Rattle.floor_turn.proofs.Moving.{bytes_then, moves_same, moves_then}

-- nothing was done
pub unmoved : (m : Meetings) → Moves nothing_taken m m
unmoved m = moves_same m m refl

-- behind what was done they stayed as they were
pub moved_and_same : (a b c : Meetings) → Moves nothing_taken a b → c ≡ b → Moves nothing_taken a c
moved_and_same a b c m same = subst (λ (x : Meetings). Moves nothing_taken a x) (sym same) m

-- one behind another
pub moved_then : (a b c : Meetings) → Moves nothing_taken a b → Moves nothing_taken b c → Moves nothing_taken a c
moved_then = moves_then

-- calls behind calls
leads_then : (cs ds : List Call) (a b c : Meetings) → Leads cs a b → Leads ds b c → Leads (cs ++ ds) a c
leads_then [] ds a b c same next = subst (λ (m : Meetings). Leads ds m c) same next
leads_then (d ∷ cs) ds a b c l next = (l.0, l.1, leads_then cs ds l.0 b c l.2 next)

-- sockets took these bytes, and then none
pub taken_then : (taken : ℕ → List ℕ) (a b c : Meetings) → Moves taken a b → Moves nothing_taken b c → Moves taken a c
taken_then taken a b c m n = record {
  calls = m.calls ++ n.calls;
  lead = leads_then m.calls n.calls a b c m.lead n.lead;
  took = λ slot. bytes_then slot m.calls n.calls ∙ ap (λ (xs : List ℕ). bytes_by slot m.calls ++ xs) (n.took slot) ∙ append-nil (bytes_by slot m.calls) ∙ m.took slot;
}
