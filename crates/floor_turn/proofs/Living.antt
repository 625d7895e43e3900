-- The law of lives.
use Rattle.std.proofs.Common.{◌≡◌, ℕ, List, [], ◌∷◌, ◌++◌, refl, ap, ◌∙◌, subst}
use Rattle.floor_meetings.specs.declared.meetings.Meetings.{Meetings}
use Rattle.floor_meetings.specs.declared.members.Member.{Member}
use Rattle.floor_meetings.specs.Runs.{Call as Part, Lives}
use Rattle.floor_meetings.specs.Runs as meetings
use Rattle.floor_meetings.specs.Laws as lives
use Rattle.floor_meetings.specs.Laws.{IsCalledFor}
use Rattle.floor_turn.specs.declared.server.Server.{Server}
use Rattle.floor_turn.specs.Moves.{Leads, taken_at}
use Rattle.floor_turn.specs.Runs.{Call, Took, Other, Calls, Stays, StaysBy, bytes_by}
use Rattle.floor_turn.specs.Laws.{TakenIsCalledFor}
use Rattle.floor_turn.proofs.Moving.{bytes_then}

lives_by : (slot : ℕ) (member : Member) (parts : List Part) (first last : Meetings) (lead : Leads parts first last) → StaysBy slot member parts first last lead → Lives slot member parts first last
lives_by slot member [] first last lead stays = lead
lives_by slot member (p ∷ ps) first last lead stays = (lead.0, lead.1, stays.0, lives_by slot member ps lead.0 last lead.2 stays.1)

lives_then : (slot : ℕ) (member : Member) (ps qs : List Part) (a b c : Meetings) → Lives slot member ps a b → Lives slot member qs b c → Lives slot member (ps ++ qs) a c
lives_then slot member [] qs a b c same next = subst (λ (m : Meetings). Lives slot member qs m c) same next
lives_then slot member (p ∷ ps) qs a b c l next = (l.0, l.1, l.2, lives_then slot member ps qs l.0 b c l.3 next)

-- a member's life, as the meetings see it
record Lived (slot : ℕ) (member : Member) (bytes : List ℕ) (old new : Meetings) : Type 0 where
  parts : List Part
  lives : Lives slot member parts old new
  took : meetings.bytes_by slot parts ≡ bytes

lived_then : (slot : ℕ) (member : Member) (xs ys : List ℕ) (a b c : Meetings) → Lived slot member xs a b → Lived slot member ys b c → Lived slot member (xs ++ ys) a c
lived_then slot member xs ys a b c l m = record {
  parts = l.parts ++ m.parts;
  lives = lives_then slot member l.parts m.parts a b c l.lives m.lives;
  took = bytes_then slot l.parts m.parts ∙ ap (λ (zs : List ℕ). zs ++ meetings.bytes_by slot m.parts) l.took ∙ ap (λ (zs : List ℕ). xs ++ zs) m.took;
}

lived_all : (slot : ℕ) (member : Member) (calls : List Call) (first last : Server) (through : Calls calls first last) → Stays slot member calls first last through → Lived slot member (bytes_by slot calls) first.meetings last.meetings
lived_all slot member [] first last same stays = record { parts = []; lives = ap (λ (s : Server). s.meetings) same; took = refl }
lived_all slot member (Took socket bytes ∷ cs) first last t stays =
    lived_then slot member (taken_at socket bytes slot) (bytes_by slot cs) first.meetings t.0.meetings last.meetings
    (record { parts = t.1.2.calls; lives = lives_by slot member t.1.2.calls first.meetings t.0.meetings t.1.2.lead stays.0; took = t.1.2.took slot })
    (lived_all slot member cs t.0 last t.2 stays.1)
lived_all slot member (Other ∷ cs) first last t stays =
    lived_then slot member [] (bytes_by slot cs) first.meetings t.0.meetings last.meetings
    (record { parts = t.1.calls; lives = lives_by slot member t.1.calls first.meetings t.0.meetings t.1.lead stays.0; took = t.1.took slot })
    (lived_all slot member cs t.0 last t.2 stays.1)

pub law : lives.TakenIsCalledFor → TakenIsCalledFor
law of_lives before rest calls slot member joined first last through stands living new begun untaken stays x r live there whole =
    let all = lived_then slot member [] (bytes_by slot calls) joined first.meetings last.meetings (record { parts = rest; lives = begun; took = untaken }) (lived_all slot member calls first last through stays) in
    subst (IsCalledFor last.meetings.hub x r) all.took (of_lives before all.parts slot member joined last.meetings stands living new all.lives x r live there whole)
