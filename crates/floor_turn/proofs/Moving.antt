-- What the calls of the server do to its meetings.
use Rattle.std.proofs.Common.{◌≡◌, ℕ, Bool, true, false, List, [], ◌∷◌, ◌++◌, refl, sym, ap, ◌∙◌, subst, append_assoc, append-nil}
use Rattle.std.specs.Prelude.{MatchOption, if◌then◌else◌, length, min, nat_eq, take}
use Rattle.floor_meetings.specs.declared.meetings.Meetings.{Meetings}
use Rattle.floor_meetings.specs.Calls.{Takes}
use Rattle.floor_meetings.specs.Meetings.{lent_at, member_at}
use Rattle.floor_meetings.specs.Runs.{Call, Does, Took, bytes_by, taken_by}
use Rattle.floor_turn.specs.Moves.{Leads, Moves, nothing_taken, taken_at, taken_of}

-- one behind another
leads_then : (cs ds : List Call) (a b c : Meetings) → Leads cs a b → Leads ds b c → Leads (cs ++ ds) a c
leads_then [] ds a b c same next = subst (λ (m : Meetings). Leads ds m c) same next
leads_then (d ∷ cs) ds a b c l next = (l.0, l.1, leads_then cs ds l.0 b c l.2 next)

pub bytes_then : (slot : ℕ) (cs ds : List Call) → bytes_by slot (cs ++ ds) ≡ bytes_by slot cs ++ bytes_by slot ds
bytes_then slot [] ds = refl
bytes_then slot (c ∷ cs) ds = ap (λ (xs : List ℕ). taken_by slot c ++ xs) (bytes_then slot cs ds) ∙ sym (append_assoc (taken_by slot c) (bytes_by slot cs) (bytes_by slot ds))

pub moves_same : (old new : Meetings) → new ≡ old → Moves nothing_taken old new
moves_same old new same = record { calls = []; lead = same; took = λ slot. refl }

pub moves_one : (c : Call) (old new : Meetings) → Does c old new → ((slot : ℕ) → bytes_by slot (c ∷ []) ≡ []) → Moves nothing_taken old new
moves_one c old new does none = record { calls = c ∷ []; lead = (new, does, refl); took = none }

pub moves_then : (a b c : Meetings) → Moves nothing_taken a b → Moves nothing_taken b c → Moves nothing_taken a c
moves_then a b c m n = record {
  calls = m.calls ++ n.calls;
  lead = leads_then m.calls n.calls a b c m.lead n.lead;
  took = λ slot. bytes_then slot m.calls n.calls ∙ ap (λ (xs : List ℕ). xs ++ bytes_by slot n.calls) (m.took slot) ∙ n.took slot;
}

-- no socket took anything where no write was asked
none_at : (socket slot : ℕ) → [] ≡ taken_at socket [] slot
none_at socket slot = by (nat_eq socket slot)
  where
    by : (b : Bool) → ◌≡◌ {A = List ℕ} [] (if b then [] else [])
    by true = refl
    by false = refl

pub moves_untaken : (socket : ℕ) (m : Meetings) → Moves (taken_at socket []) m m
moves_untaken socket m = record { calls = []; lead = refl; took = none_at socket }

-- a write
pub moves_taken : (socket count : ℕ) (old new : Meetings) → new.members ≡ old.members
    → MatchOption (member_at old socket) (new.hub ≡ old.hub) (λ m. Takes m.number (min count (length (lent_at old socket))) old.hub new.hub)
    → Moves (taken_at socket (taken_of true count (lent_at old socket))) old new
moves_taken socket count old new same takes =
    let bytes = take (min count (length (lent_at old socket))) (lent_at old socket) in
    record { calls = Took socket bytes ∷ []; lead = (new, (same, (count, refl, takes)), refl); took = λ slot. append-nil (taken_at socket bytes slot) }
