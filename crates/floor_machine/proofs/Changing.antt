-- What each accepted message changes, before the requests are settled.
use Rattle.std.proofs.Common.{◌≡◌, ℕ, ◌+◌, ◌≤◌, Bool, true, false, cond, List, [], ◌∷◌, ◌++◌, map, Some, None, refl, sym, ap, ◌∙◌, arith, append-nil}
use Rattle.std.specs.Prelude.{◌==◌, ◌&&◌, not, nat_lt, All}
use Rattle.std.specs.List.{list_all}
use Rattle.std.specs.Option.{option_map_or}
use Rattle.std.proofs.lemmas.List.{map-append}
use Rattle.std.proofs.lemmas.List.Elements.{All-head, All-tail}
use Rattle.std.proofs.lemmas.Bool.Decides.{nat_tests}
use Rattle.floor_queue.specs.declared.request.Request.{Request}
use Rattle.floor_queue.specs.Queue.{request_at, numbers_of, is_ascending, without}
use Rattle.floor_message.specs.declared.verdicts.Verdict.{Verdict}
use Rattle.floor_message.specs.declared.status.RequestStatus.{RequestStatus}
use Rattle.floor_machine.specs.Shown.{Entry, entry_of, ongoing_of}
use Rattle.floor_machine.specs.Change.{ends_at, decided, decided_at}
use Rattle.floor_machine.specs.steps.Telling.{entry_of_ended}
use Rattle.floor_machine.specs.steps.Serving.{ended_of, numbers_in, is_rising}
use Rattle.floor_machine.proofs.Found.{and_left, and_right}
use Rattle.floor_machine.proofs.Entries.{ongoing_of-entries, ended_of-entries, numbers_in-entries, ongoing_of-append, ended_of-append}

-- numbers rise as the requests ascend
above-numbers : (n : ℕ) (rs : List Request) → list_all (nat_lt n) (numbers_of rs) ≡ list_all (λ q. nat_lt n q.number) rs
above-numbers n [] = refl
above-numbers n (r ∷ rs) = ap (λ (b : Bool). nat_lt n r.number && b) (above-numbers n rs)

pub rising-numbers : (rs : List Request) → is_rising (numbers_of rs) ≡ is_ascending rs
rising-numbers [] = refl
rising-numbers (r ∷ rs) =
    ap (λ (b : Bool). b && is_rising (numbers_of rs)) (above-numbers r.number rs)
    ∙ ap (λ (b : Bool). list_all (λ q. nat_lt r.number q.number) rs && b) (rising-numbers rs)

and_both : (a b : Bool) → a ≡ true → b ≡ true → (a && b) ≡ true
and_both true b h k = k
and_both false b h k = h

below_next : (n given : ℕ) → n ≤ given → nat_lt n (given + 1) ≡ true
below_next n given h = grind (arith, nat_tests)

above-last : (n : ℕ) (ns : List ℕ) (m : ℕ) → list_all (nat_lt n) ns ≡ true → nat_lt n m ≡ true → list_all (nat_lt n) (ns ++ m ∷ []) ≡ true
above-last n [] m h k = and_both (nat_lt n m) true k refl
above-last n (x ∷ ns) m h k = and_both (nat_lt n x) _ (and_left _ _ h) (above-last n ns m (and_right _ _ h) k)

-- the next number is above all
pub rising-next : (rs : List Request) (given : ℕ) → is_ascending rs ≡ true → All (λ r. (1 ≤ r.number) × (r.number ≤ given)) rs → is_rising (numbers_of rs ++ (given + 1) ∷ []) ≡ true
rising-next [] given h all = refl
rising-next (r ∷ rs) given h all =
    and_both (list_all (nat_lt r.number) (numbers_of rs ++ (given + 1) ∷ [])) _
    (above-last r.number (numbers_of rs) (given + 1) (above-numbers r.number rs ∙ and_left _ _ h) (below_next r.number given (All-head (λ (q : Request). (1 ≤ q.number) × (q.number ≤ given)) r rs all).1))
    (rising-next rs given (and_right _ _ h) (All-tail (λ (q : Request). (1 ≤ q.number) × (q.number ≤ given)) r rs all))

-- a request is added at the end
pub entries-added : (rs : List Request) (r : Request) → ongoing_of (map entry_of rs ++ entry_of r ∷ []) ≡ rs ++ r ∷ []
entries-added rs r = ongoing_of-append (map entry_of rs) (entry_of r ∷ []) ∙ ap (λ (qs : List Request). qs ++ r ∷ []) (ongoing_of-entries rs)

pub none-ended-added : (rs : List Request) (r : Request) → ended_of (map entry_of rs ++ entry_of r ∷ []) ≡ []
none-ended-added rs r = ended_of-append (map entry_of rs) (entry_of r ∷ []) ∙ append-nil (ended_of (map entry_of rs)) ∙ ended_of-entries rs

pub numbers-added : (rs : List Request) (r : Request) → numbers_in (map entry_of rs ++ entry_of r ∷ []) ≡ numbers_of rs ++ r.number ∷ []
numbers-added rs r =
    map-append (λ (e : Entry). e.request.number) (map entry_of rs) (entry_of r ∷ []) ∙ ap (λ (ns : List ℕ). ns ++ r.number ∷ []) (numbers_in-entries rs)

-- the request as it ends, as an entry
abbrev pub ending_entry : ℕ → (Request → RequestStatus) → Request → Entry
ending_entry k how r = record { request = r; ending = ends_at k how r }

pub ongoing_of-ending : (k : ℕ) (how : Request → RequestStatus) (rs : List Request) → ongoing_of (map (ending_entry k how) rs) ≡ without k rs
ongoing_of-ending k how [] = refl
ongoing_of-ending k how (r ∷ rs) = by (r.number == k) (ongoing_of-ending k how rs)
  where
    by : (b : Bool) → ongoing_of (map (ending_entry k how) rs) ≡ without k rs →
        ongoing_of (record { request = r; ending = cond b (Some (how r)) None } ∷ map (ending_entry k how) rs) ≡ cond (not b) (r ∷ without k rs) (without k rs)
    by true h = h
    by false h = ap (λ (qs : List Request). r ∷ qs) h

none-with : (k : ℕ) (how : Request → RequestStatus) (rs : List Request) → list_all (λ q. nat_lt k q.number) rs ≡ true → ended_of (map (ending_entry k how) rs) ≡ []
none-with k how [] h = refl
none-with k how (r ∷ rs) h = rw (other k r.number (and_left _ _ h)) (none-with k how rs (and_right _ _ h))
  where
    other : (a b : ℕ) → nat_lt a b ≡ true → (b == a) ≡ false
    other a b h = grind (arith, nat_tests)

-- the one request with the number ends
pub ended_of-ending : (k : ℕ) (how : Request → RequestStatus) (rs : List Request) → is_ascending rs ≡ true →
    ended_of (map (ending_entry k how) rs) ≡ option_map_or (λ r. entry_of_ended record { request = r; ending = how r } ∷ []) (request_at rs k) []
ended_of-ending k how [] h = refl
ended_of-ending k how (r ∷ rs) h =
    by (r.number == k) refl (ended_of-ending k how rs (and_right _ _ h))
  where
    equal : (a b : ℕ) → true ≡ (a == b) → a ≡ b
    equal a b e = grind (arith, nat_tests)

    by : (b : Bool) → b ≡ (r.number == k) →
        ended_of (map (ending_entry k how) rs) ≡ option_map_or (λ r. entry_of_ended record { request = r; ending = how r } ∷ []) (request_at rs k) [] →
        ended_of (record { request = r; ending = cond b (Some (how r)) None } ∷ map (ending_entry k how) rs)
        ≡ option_map_or (λ r. entry_of_ended record { request = r; ending = how r } ∷ []) (cond b (Some r) (request_at rs k)) []
    by true same rest =
        ap (λ (es : List Entry). entry_of_ended record { request = r; ending = how r } ∷ es)
        (none-with k how rs (ap (λ (m : ℕ). list_all (λ q. nat_lt m q.number) rs) (sym (equal r.number k same)) ∙ and_left _ _ h))
    by false other rest = rest

pub numbers_in-ending : (k : ℕ) (how : Request → RequestStatus) (rs : List Request) → numbers_in (map (ending_entry k how) rs) ≡ numbers_of rs
numbers_in-ending k how [] = refl
numbers_in-ending k how (r ∷ rs) = ap (λ (ns : List ℕ). r.number ∷ ns) (numbers_in-ending k how rs)

-- verdicts that end no request leave all ongoing
pub ongoing_of-decided : (k : ℕ) (verdicts : List (ℕ × Verdict)) (rs : List Request) → ongoing_of (map (λ r. entry_of (decided_at k verdicts r)) rs) ≡ map (decided_at k verdicts) rs
ongoing_of-decided k verdicts [] = refl
ongoing_of-decided k verdicts (r ∷ rs) = ap (λ (qs : List Request). decided_at k verdicts r ∷ qs) (ongoing_of-decided k verdicts rs)

pub ended_of-decided : (k : ℕ) (verdicts : List (ℕ × Verdict)) (rs : List Request) → ended_of (map (λ r. entry_of (decided_at k verdicts r)) rs) ≡ []
ended_of-decided k verdicts [] = refl
ended_of-decided k verdicts (r ∷ rs) = ended_of-decided k verdicts rs

-- verdicts leave each request its number
pub numbers_in-decided : (k : ℕ) (verdicts : List (ℕ × Verdict)) (rs : List Request) → numbers_in (map (λ r. entry_of (decided_at k verdicts r)) rs) ≡ numbers_of rs
numbers_in-decided k verdicts [] = refl
numbers_in-decided k verdicts (r ∷ rs) =
    ap (λ (m : ℕ). m ∷ numbers_in (map (λ q. entry_of (decided_at k verdicts q)) rs)) (by (r.number == k))
    ∙ ap (λ (ns : List ℕ). r.number ∷ ns) (numbers_in-decided k verdicts rs)
  where
    by : (b : Bool) → (cond b (record r { floors = map (decided verdicts) r.floors }) r).number ≡ r.number
    by true = refl
    by false = refl
