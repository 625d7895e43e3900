-- What a run reads for each arrival is what the events of its conference call for.
use Rattle.std.proofs.Common.{◌≡◌, ℕ, zero, suc, ◌+◌, ◌<◌, ◌≤◌, Bool, List, [], ◌∷◌, ◌++◌, length, get_or, take, map, refl, sym, ◌∙◌, ap, subst, arith, length-append, Some, None}
use Rattle.std.specs.Prelude.{Option, Result, Ok, Err, IfOk, nat_eq, slice_get}
use Rattle.std.specs.List.{list_any}
use Rattle.std.specs.declared.alloc.AllocError.{AllocError}
use Rattle.std.proofs.lemmas.List.{length-map, length-take-le, map-append, take_more}
use Rattle.floor_config.specs.Configuration.{Configuration}
use Rattle.floor_machine.specs.declared.event.Event.{Event}
use Rattle.floor_machine.specs.Conference.{Conference}
use Rattle.floor_machine.specs.Journal.{Q, after}
use Rattle.floor_room.specs.Room.{Room}
use Rattle.floor_hub.specs.declared.connection.Place.{Place}
use Rattle.floor_hub.specs.declared.transcript.Queued.{Queued}
use Rattle.floor_hub.specs.Hub.{Hub, room_at}
use Rattle.floor_hub.specs.Kept.{KeptIn}
use Rattle.floor_hub.specs.Runs.{called_at, queues_from}
use Rattle.floor_hub.specs.steps.Running.{IsRunning, QueuedIn, place_of}
use Rattle.floor_hub.specs.StandsFor.{ConferenceStands, RoomStands}
use Rattle.floor_hub.specs.World as world
use Rattle.floor_hub.specs.World.{Part, World, place, state_of}
use Rattle.floor_hub.proofs.Keeping.{members_of}
use Rattle.floor_hub.proofs.Places.{IsNumber, number_within}

get_map : (ps : List Place) (i : ℕ) (p d : Place) → i < length ps → p ≡ get_or ps i d → slice_get (map place_of ps) i ≡ Some (place_of p)
get_map [] i p d h e = absurd (omega (arith, h))
get_map (x ∷ ps) zero p d h e = ap (λ (y : Place). Some (place_of y)) (sym e)
get_map (x ∷ ps) (suc i) p d h e = get_map ps i p d (omega (arith, h)) e

ok_along : (res : Result (List ℕ) AllocError) (x y : List ℕ) → x ≡ y → IfOk res (λ b. b ≡ x) → IfOk res (λ b. b ≡ y)
ok_along (Ok b) x y e h = h ∙ e
ok_along (Err r) x y e h = tt

module _ (h : Hub) (places : List Place) (w : World) (i : ℕ) (p d : Place) (res : Result (List ℕ) AllocError) (running : IsRunning h places w) (within : i < length places)
    (is : p ≡ get_or places i d) (value : (r : Room) → room_at h p.conference ≡ Some r → QueuedIn r p.n res) where
  here : slice_get w.places i ≡ Some (place_of p)
  here = ap (λ (ps : List world.Place). slice_get ps i) (sym running.places) ∙ get_map places i p d within is

  called_by : (z : Option Part) (y : Option Room) → w.parts p.conference ≡ z → room_at h p.conference ≡ y → RoomStands y z → KeptIn z → IfOk res (λ b. b ≡ called_at z p.n)
  called_by None y e f s k =
      let number : IsNumber 0 p.n = number_within w running.stands.kept p.conference None e i (place_of p) here refl in
      absurd (omega (arith, number.0, number.1))
  called_by (Some part) None e f s k = absurd s
  called_by (Some part) (Some r) e f s k =
      let whole = running.whole.0 p.conference r f in
      let journal : r.ledger.journal ≡ part.events = s.1 whole.0 in
      let number : IsNumber (length part.arrivals) p.n = number_within w running.stands.kept p.conference (Some part) e i (place_of p) here refl in
      let same : after r.ledger.config r.ledger.journal ≡ state_of part = ap (λ (x : Configuration). after x r.ledger.journal) s.0 ∙ ap (after part.config) journal in
      let high : p.n ≤ length (after r.ledger.config r.ledger.journal).members = omega (arith, number.1, members_of part k, ap (λ (x : Conference). length x.members) same) in
      ok_along res (Q r.ledger.config r.ledger.journal p.n) (Q part.config part.events p.n)
      (ap (λ (x : Configuration). Q x r.ledger.journal p.n) s.0 ∙ ap (λ (es : List Event). Q part.config es p.n) journal)
      (value r f number.0 high whole.1 whole.0)

  -- no conference was forgotten
  stands : RoomStands (room_at h p.conference) (w.parts p.conference)
  stands = subst (λ (b : Bool). ConferenceStands b (room_at h p.conference) (w.parts p.conference)) (ap (λ (ks : List ℕ). list_any (nat_eq p.conference) ks) running.whole.1) (running.stands.stands.conferences p.conference)

  pub called_there : IfOk res (λ b. b ≡ called_at (w.parts p.conference) p.n)
  called_there = called_by (w.parts p.conference) (room_at h p.conference) refl refl stands (running.stands.kept.parts p.conference)

-- one more place adds its entry
queues_more : (parts : ℕ → Option Part) (k : ℕ) (ps : List world.Place) (q : world.Place) →
    queues_from parts k (ps ++ q ∷ []) ≡ queues_from parts k ps ++ record { number = k + length ps; conference = q.conference; n = q.n; bytes = called_at (parts q.conference) q.n } ∷ []
queues_more parts k [] q =
    let same : k ≡ k + 0 = omega arith in
    ap (λ (m : ℕ). record { number = m; conference = q.conference; n = q.n; bytes = called_at (parts q.conference) q.n } ∷ []) same
queues_more parts k (p ∷ ps) q =
    let same : (k + 1) + length ps ≡ k + suc (length ps) = omega arith in
    ap (λ (xs : List Queued). record { number = k; conference = p.conference; n = p.n; bytes = called_at (parts p.conference) p.n } ∷ xs)
    (queues_more parts (k + 1) ps q
    ∙ ap (λ (m : ℕ). queues_from parts (k + 1) ps ++ record { number = m; conference = q.conference; n = q.n; bytes = called_at (parts q.conference) q.n } ∷ []) same)

pub entry_more : (parts : ℕ → Option Part) (places : List Place) (i m : ℕ) (p d : Place) (es : List Queued) (b : List ℕ) → i < length places → p ≡ get_or places i d → length es ≡ i → m ≡ i + 1 →
    es ≡ queues_from parts 1 (map place_of (take i places)) → b ≡ called_at (parts p.conference) p.n →
    es ++ record { number = m; conference = p.conference; n = p.n; bytes = b } ∷ [] ≡ queues_from parts 1 (map place_of (take (i + 1) places))
entry_more parts places i m p d es b within is count number before bytes =
    let taken : take (i + 1) places ≡ take i places ++ p ∷ [] = take_more places i d within ∙ ap (λ (y : Place). take i places ++ y ∷ []) (sym is) in
    let long : length (map place_of (take i places)) ≡ i = length-map (take i places) place_of ∙ length-take-le i places (omega arith) in
    let at_end : m ≡ 1 + length (map place_of (take i places)) = omega (arith, number, long) in
    ap (λ (xs : List Queued). xs ++ record { number = m; conference = p.conference; n = p.n; bytes = b } ∷ []) before
    ∙ ap (λ (x : List ℕ). queues_from parts 1 (map place_of (take i places)) ++ record { number = m; conference = p.conference; n = p.n; bytes = x } ∷ []) bytes
    ∙ ap (λ (x : ℕ). queues_from parts 1 (map place_of (take i places)) ++ record { number = x; conference = p.conference; n = p.n; bytes = called_at (parts p.conference) p.n } ∷ []) at_end
    ∙ sym (ap (λ (ps : List Place). queues_from parts 1 (map place_of ps)) taken
    ∙ ap (queues_from parts 1) (map-append place_of (take i places) (p ∷ []))
    ∙ queues_more parts 1 (map place_of (take i places)) (place_of p))

-- a turn of the loop over the places
pub entries_more : (h : Hub) (places : List Place) (i m : ℕ) (p d : Place) (es new : List Queued) (b : List ℕ) → i < length places → p ≡ get_or places i d → length es ≡ i → m ≡ length es + 1 →
    ((w : World) → IsRunning h places w → es ≡ queues_from w.parts 1 (map place_of (take i places))) →
    ((r : Room) → room_at h p.conference ≡ Some r → QueuedIn {E = AllocError} r p.n (Ok b)) →
    new ≡ es ++ record { number = m; conference = p.conference; n = p.n; bytes = b } ∷ [] →
    ((w : World) → IsRunning h places w → new ≡ queues_from w.parts 1 (map place_of (take (i + 1) places))) × (length new ≡ i + 1)
entries_more h places i m p d es new b within is count number before value pushed = (
  λ w running. pushed ∙ entry_more w.parts places i m p d es b within is count (omega (arith, number, count)) (before w running) (called_there h places w i p d (Ok b) running within is value),
  omega (arith, ap length pushed, length-append es (record { number = m; conference = p.conference; n = p.n; bytes = b } ∷ []), count),
)

take_all : (ps : List Place) (i : ℕ) → length ps ≤ i → take i ps ≡ ps
take_all [] zero h = refl
take_all [] (suc i) h = refl
take_all (x ∷ ps) zero h = absurd (omega (arith, h))
take_all (x ∷ ps) (suc i) h = ap (λ (xs : List Place). x ∷ xs) (take_all ps i (omega (arith, h)))

-- at the end of the places
pub entries_all : (h : Hub) (places : List Place) (i : ℕ) (es : List Queued) → length places ≤ i →
    ((w : World) → IsRunning h places w → es ≡ queues_from w.parts 1 (map place_of (take i places))) →
    (w : World) → IsRunning h places w → es ≡ queues_from w.parts 1 w.places
entries_all h places i es past so_far w running =
    so_far w running
    ∙ ap (λ (ps : List Place). queues_from w.parts 1 (map place_of ps)) (take_all places i past)
    ∙ ap (queues_from w.parts 1) running.places
