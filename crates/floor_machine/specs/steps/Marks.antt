-- Which ongoing floor requests an event may have moved: the marks of those that it changed, and what holds of all others.
use Rattle.std.specs.Prelude.{◌≡◌, ℕ, ◌==◌, ◌&&◌, ◌||◌, nat_lt, if◌then◌else◌, Bool, true, false, List, [], ◌∷◌, map}
use Rattle.std.specs.List.{list_any}
use Rattle.std.specs.Option.{option_map_or}
use Rattle.floor_config.specs.declared.floors.Floor.{Floor}
use Rattle.floor_queue.specs.declared.request.Request.{Request}
use Rattle.floor_queue.specs.Requested.{is_granting}
use Rattle.floor_queue.specs.Order.{ahead, names, waits}
use Rattle.floor_queue.specs.Queue.{request_at}
use Rattle.floor_machine.specs.declared.marks.Mark.{Mark}

-- the last word of one of the request's chairs was Granted: each express request is one of these
abbrev pub has_granting_chair : Request → Bool
has_granting_chair r = list_any (λ f. is_granting f.word) r.floors

-- the mark of a request
abbrev pub mark_of : Request → Mark
mark_of r =
    record {
      number = r.number;
      waits = waits r;
      has_granting_chair = has_granting_chair r;
      priority = r.priority;
      floors = map (λ f. f.floor) r.floors;
    }

-- the mark of a request that was granted, as it was while it waited
abbrev pub waiting_mark : Request → Mark
waiting_mark r = record (mark_of r) { waits = true }

-- the mark of the request with this number
abbrev pub marks_at : List Request → ℕ → List Mark
marks_at requests number = option_map_or (λ r. mark_of r ∷ []) (request_at requests number) []

-- the mark of the granted request with this number, as it was while it waited
abbrev pub marks_waiting : List Request → ℕ → List Mark
marks_waiting requests number = option_map_or (λ r. waiting_mark r ∷ []) (request_at requests number) []

-- of two requests that aren't express, the marked one is before the other
abbrev pub is_before : Mark → Request → Bool
is_before m r = if m.priority == r.priority then nat_lt m.number r.number else nat_lt r.priority m.priority

-- the marked request may be ahead of the other
abbrev pub precedes : Mark → Request → Bool
precedes m r = m.waits && (m.has_granting_chair || is_before m r) && list_any (names r) m.floors

-- the mark is the request's own, or that of one which may be ahead of it
abbrev pub concerns : Request → Mark → Bool
concerns r m = m.number == r.number || precedes m r

-- a mark concerns the request
abbrev pub is_marked : List Mark → Request → Bool
is_marked marks r = list_any (concerns r) marks

-- one of the marks has this number
abbrev pub is_noted : List Mark → ℕ → Bool
is_noted marks number = list_any (λ m. m.number == number) marks

-- What the marks of an event have noted: each request whose number none of them has is what it was, and as many are ahead of each
-- request that none of them concerns as were before.
pub record AreNoted (floors : List Floor) (before after : List Request) (marks : List Mark) : Type 0 where
  pub same : (number : ℕ) → is_noted marks number ≡ false → request_at after number ≡ request_at before number
  pub places : (r : Request) (floor : ℕ) → is_marked marks r ≡ false → names r floor ≡ true → ahead floors after r floor ≡ ahead floors before r floor

-- a step that leaves other requests marks what it changed: whatever was noted is noted still
abbrev pub KeepsNoted : List Request → List Mark → List Request → List Mark → Type 0
KeepsNoted now marks later more =
    (floors : List Floor) (before : List Request) → AreNoted floors before now marks → AreNoted floors before later more
