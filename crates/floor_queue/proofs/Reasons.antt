-- What a chair's reason changes: nothing else of the request, and so nothing of the order.
use Rattle.std.proofs.Common.{◌≡◌, ℕ, ◌+◌, Bool, true, false, List, get_or, set, refl, sym, ◌∙◌, ap, subst, map}
use Rattle.std.specs.Prelude.{not, ◌&&◌, nat_lt, ◌==◌, count_by, if◌then◌else◌, Option, Some, None, IfSome, IsSome, IsSomeAnd, IsTrue}
use Rattle.std.specs.List.{position_or_len}
use Rattle.std.specs.Option.{option_map}
use Rattle.floor_config.specs.declared.floors.Floor.{Floor}
use Rattle.floor_queue.specs.declared.request.Request.{Request}
use Rattle.floor_queue.specs.declared.requested_floor.RequestedFloor.{RequestedFloor}
use Rattle.floor_queue.specs.declared.index.rank.Rank.{Rank}
use Rattle.floor_queue.specs.Order.{room_of, names, waits, earlier, holders, ahead, is_due}
use Rattle.floor_queue.specs.Queue.{Queue, IsQueue, IsReason, MaySetFloor, is_ascending, new_of, request_at, involves, with_reason, after_set_reason}
use Rattle.floor_queue.specs.steps.Lines.{FloorLine, IsLine, AreLines, AreMarked, rank_of, names_marked}
use Rattle.floor_queue.proofs.Changing.{set-place}
use Rattle.floor_queue.proofs.Counts.{count_by-map}
use Rattle.floor_queue.proofs.Kept.{KeepsRequest, IsQueue-map, request_at-map, IsSomeAnd-map}
use Rattle.floor_queue.proofs.Lining.{changed_at, list_all_same}
use Rattle.floor_queue.proofs.Placing.{found_within}

-- nothing but the reason is another
pub alone : (request : ℕ) (reason : List ℕ) (r : Request) → with_reason request reason r ≡ record r { reason = (with_reason request reason r).reason }
alone request reason r = by (r.number == request)
  where
    by : (b : Bool) → (if b then record r { reason = Some reason } else r) ≡ record r { reason = (if b then record r { reason = Some reason } else r).reason }
    by true = refl
    by false = refl

pub number-with_reason : (request : ℕ) (reason : List ℕ) (r : Request) → (with_reason request reason r).number ≡ r.number
number-with_reason request reason r = ap (λ (q : Request). q.number) (alone request reason r)

pub involves-with_reason : (request : ℕ) (reason : List ℕ) (r : Request) (user : ℕ) → involves (with_reason request reason r) user ≡ involves r user
involves-with_reason request reason r user = ap (λ (q : Request). involves q user) (alone request reason r)

rank_same : (floors : List Floor) (r : Request) (reason : Option (List ℕ)) → rank_of floors (record r { reason = reason }) ≡ rank_of floors r
unfolding rank_of
rank_same floors r reason = refl

-- the requests, where one has another reason
module _ (floors : List Floor) (request : ℕ) (reason : List ℕ) (rs : List Request) where
  abbrev told : List Request
  told = map (with_reason request reason) rs

  holders_same : (floor : ℕ) → holders told floor ≡ holders rs floor
  holders_same floor =
      let p : Request → Bool = λ q. q.is_granted && names q floor in count_by-map p p (with_reason request reason) (λ q. ap p (alone request reason q)) rs

  pub ahead_same : (r : Request) (floor : ℕ) → ahead floors told r floor ≡ ahead floors rs r floor
  ahead_same r floor =
      let p : Request → Bool = λ q. waits q && names q floor && earlier floors q r in
      count_by-map p p (with_reason request reason) (λ q. ap p (alone request reason q)) rs

  due_same : (r : Request) → is_due floors told r ≡ is_due floors rs r
  due_same r =
      ap (λ b. waits r && b)
      (list_all_same (λ (f : RequestedFloor). nat_lt (holders told f.floor + ahead floors told r f.floor) (room_of floors f.floor))
      (λ (f : RequestedFloor). nat_lt (holders rs f.floor + ahead floors rs r f.floor) (room_of floors f.floor))
      (λ f. ap (λ n. nat_lt (n + ahead floors told r f.floor) (room_of floors f.floor)) (holders_same f.floor)
      ∙ ap (λ n. nat_lt (holders rs f.floor + n) (room_of floors f.floor)) (ahead_same r f.floor)) r.floors)

  pub AreMarked-told : (lines : List FloorLine) → AreMarked floors rs lines → AreMarked floors told lines
  AreMarked-told lines h =
      let p : Request → Bool = λ r. is_due floors told r && not (names_marked lines r) in
      let q : Request → Bool = λ r. is_due floors rs r && not (names_marked lines r) in
      count_by-map p q (with_reason request reason) (λ r. ap p (alone request reason r) ∙ ap (λ b. b && not (names_marked lines r)) (due_same r)) rs ∙ h

  IsLine-told : (l : FloorLine) → IsLine floors rs l → IsLine floors told l
  IsLine-told l h = record { in_order = h.in_order; counts = λ p. h.counts p ∙ sym (same p) }
    where
      same : (p : Rank → Bool) → count_by (λ r. names r l.floor && p (rank_of floors r)) told ≡ count_by (λ r. names r l.floor && p (rank_of floors r)) rs
      same p =
          let t : Request → Bool = λ r. names r l.floor && p (rank_of floors r) in
          count_by-map t t (with_reason request reason) (λ r. ap t (alone request reason r) ∙ ap (λ k. names r l.floor && p k) (rank_same floors r (with_reason request reason r).reason)) rs

  pub AreLines-told : (lines : List FloorLine) → AreLines floors rs lines → AreLines floors told lines
  AreLines-told lines h = record { floors_same = h.floors_same; each = λ k d l. IsLine-told _ (h.each k d l) }

keeps_with_reason : (request : ℕ) (reason : List ℕ) → IsReason reason → KeepsRequest (with_reason request reason)
keeps_with_reason request reason fits =
    record { number = number-with_reason request reason; new = λ r. ap new_of (alone request reason r); reason = λ r h. by (r.number == request) r h }
  where
    by : (b : Bool) (r : Request) → IfSome r.reason IsReason → IfSome (if b then record r { reason = Some reason } else r).reason IsReason
    by true r h = fits
    by false r h = h

pub IsQueue-set_reason : (q : Queue) (request : ℕ) (reason : List ℕ) → IsReason reason → IsQueue q → IsQueue (after_set_reason q request reason)
IsQueue-set_reason q request reason fits h =
    IsQueue-map q (with_reason request reason) (keeps_with_reason request reason fits)
    (λ id. rw (holders_same q.floors request reason q.ongoing id) (h.holders_fit id)) h

-- the requests that are ongoing still are
pub IsSome-set_reason : (request : ℕ) (reason : List ℕ) (rs : List Request) (other : ℕ) → IsSome (request_at rs other) → IsSome (request_at (map (with_reason request reason) rs) other)
IsSome-set_reason request reason rs other h =
    subst (λ (o : Option Request). IsSome o) (sym (request_at-map (with_reason request reason) (number-with_reason request reason) rs other)) (kept (request_at rs other) h)
  where
    kept : (o : Option Request) → IsSome o → IsSome (option_map (with_reason request reason) o)
    kept None h = h
    kept (Some r) h = refl

-- a chair still may say what it might
pub MaySetFloor-set_reason : (q : Queue) (request : ℕ) (reason : List ℕ) (other id : ℕ) → MaySetFloor q other id → MaySetFloor (after_set_reason q request reason) other id
MaySetFloor-set_reason q request reason other id h =
    let P : Request → Type 0 = λ r. IsTrue (names r id) × IsTrue (not r.is_granted) in
    subst (λ (o : Option Request). IsSomeAnd o P) (sym (request_at-map (with_reason request reason) (number-with_reason request reason) q.ongoing other))
    (IsSomeAnd-map P (with_reason request reason) (λ r k. subst P (sym (alone request reason r)) k) (request_at q.ongoing other) h)

-- the request at its place has the reason
pub reasoned_here : (rs : List Request) (k place : ℕ) (reason : List ℕ) (before new : Request) → is_ascending rs ≡ true → IsSome (request_at rs k) → place ≡ position_or_len (λ r. r.number == k) rs →
    before ≡ get_or rs place before → new ≡ record before { reason = Some reason } → set rs place new ≡ map (with_reason k reason) rs
reasoned_here rs k place reason before new up ongoing is is_before is_new =
    let reasoned : Request → Request = λ r. record r { reason = Some reason } in
    ap (set rs place) (is_new ∙ ap reasoned is_before)
    ∙ subst (λ n. set rs n (reasoned (get_or rs n before)) ≡ map (changed_at k reasoned) rs) (sym is)
    (set-place k reasoned rs before up (found_within (λ (r : Request). r.number == k) rs ongoing))
