-- What the verdicts of a chair do to a floor request.
use Rattle.std.proofs.Common.{◌≡◌, ℕ, ◌+◌, ◌<◌, ◌≤◌, Bool, true, false, cond, List, [], ◌∷◌, length, get_or, drop, map, Option, Some, None, refl, sym, ap, ◌∙◌, arith}
use Rattle.std.specs.Prelude.{◌==◌, find}
use Rattle.std.specs.Option.{option_map_or}
use Rattle.std.proofs.lemmas.List.{drop_more, drop_all}
use Rattle.std.proofs.lemmas.Bool.Decides.{nat_tests}
use Rattle.floor_queue.specs.declared.request.Request.{Request}
use Rattle.floor_queue.specs.declared.requested_floor.FloorStatus.TheVariants.{Accepted as AcceptedFloor}
use Rattle.floor_queue.specs.declared.requested_floor.RequestedFloor.{RequestedFloor}
use Rattle.floor_queue.specs.declared.requested_floor.Word.{Word}
use Rattle.floor_queue.specs.Requested.{floor_with_word}
use Rattle.floor_queue.specs.Queue.{Queue, after_set_floor, with_word}
use Rattle.floor_message.specs.declared.verdicts.Verdict.{Verdict}
use Rattle.floor_machine.specs.Change.{word_of, decided, decided_at}

flipped : (a b : ℕ) → (a == b) ≡ (b == a)
flipped a b = grind (arith, nat_tests)

-- a floor with the word of a verdict
abbrev worded : RequestedFloor → ℕ × Verdict → RequestedFloor
worded f v = record { floor = f.floor; status = AcceptedFloor; word = Some (word_of v.1) }

-- a word stands before those of later verdicts
word-decided : (v : ℕ × Verdict) (verdicts : List (ℕ × Verdict)) (f : RequestedFloor) → floor_with_word v.0 (word_of v.1) (decided verdicts f) ≡ decided (v ∷ verdicts) f
word-decided v verdicts f = by (find (λ w. w.0 == f.floor) verdicts) ∙ ap (λ (b : Bool). option_map_or (worded f) (cond b (Some v) (find (λ w. w.0 == f.floor) verdicts)) f) (flipped f.floor v.0)
  where
    none : (b : Bool) → cond b (worded f v) f ≡ option_map_or (worded f) (cond b (Some v) None) f
    none true = refl
    none false = refl

    some : (w : ℕ × Verdict) (b : Bool) → cond b (worded f v) (worded f w) ≡ option_map_or (worded f) (cond b (Some v) (Some w)) f
    some w true = refl
    some w false = refl

    by : (o : Option (ℕ × Verdict)) → floor_with_word v.0 (word_of v.1) (option_map_or (worded f) o f) ≡ option_map_or (worded f) (cond (f.floor == v.0) (Some v) o) f
    by None = none (f.floor == v.0)
    by (Some w) = some w (f.floor == v.0)

words-decided : (v : ℕ × Verdict) (verdicts : List (ℕ × Verdict)) (fs : List RequestedFloor) → map (floor_with_word v.0 (word_of v.1)) (map (decided verdicts) fs) ≡ map (decided (v ∷ verdicts)) fs
words-decided v verdicts [] = refl
words-decided v verdicts (f ∷ fs) =
    ap (λ (x : RequestedFloor). x ∷ map (floor_with_word v.0 (word_of v.1)) (map (decided verdicts) fs)) (word-decided v verdicts f)
    ∙ ap (λ (xs : List RequestedFloor). decided (v ∷ verdicts) f ∷ xs) (words-decided v verdicts fs)

-- a word on a request, after those of later verdicts
with_word-decided : (k : ℕ) (v : ℕ × Verdict) (verdicts : List (ℕ × Verdict)) (r : Request) → with_word k v.0 (word_of v.1) (decided_at k verdicts r) ≡ decided_at k (v ∷ verdicts) r
with_word-decided k v verdicts r = by (r.number == k) refl
  where
    by : (b : Bool) → (r.number == k) ≡ b → with_word k v.0 (word_of v.1) (cond b (record r { floors = map (decided verdicts) r.floors }) r) ≡ cond b (record r { floors = map (decided (v ∷ verdicts)) r.floors }) r
    by true e = rw e (ap (λ (fs : List RequestedFloor). record r { floors = fs }) (words-decided v verdicts r.floors))
    by false e = rw e refl

-- a word on all requests, after those of later verdicts
pub word-after : (k : ℕ) (v : ℕ × Verdict) (verdicts : List (ℕ × Verdict)) (rs : List Request) → map (with_word k v.0 (word_of v.1)) (map (decided_at k verdicts) rs) ≡ map (decided_at k (v ∷ verdicts)) rs
word-after k v verdicts [] = refl
word-after k v verdicts (r ∷ rs) =
    ap (λ (x : Request). x ∷ map (with_word k v.0 (word_of v.1)) (map (decided_at k verdicts) rs)) (with_word-decided k v verdicts r)
    ∙ ap (λ (xs : List Request). decided_at k (v ∷ verdicts) r ∷ xs) (word-after k v verdicts rs)

floors-undecided : (fs : List RequestedFloor) → map (decided []) fs ≡ fs
floors-undecided [] = refl
floors-undecided (f ∷ fs) = ap (λ (xs : List RequestedFloor). f ∷ xs) (floors-undecided fs)

-- no verdict changes nothing
pub undecided : (k : ℕ) (rs : List Request) → map (decided_at k []) rs ≡ rs
undecided k [] = refl
undecided k (r ∷ rs) = ap (λ (x : Request). x ∷ map (decided_at k []) rs) (by (r.number == k)) ∙ ap (λ (xs : List Request). r ∷ xs) (undecided k rs)
  where
    by : (b : Bool) → cond b (record r { floors = map (decided []) r.floors }) r ≡ r
    by true = ap (λ (fs : List RequestedFloor). record r { floors = fs }) (floors-undecided r.floors)
    by false = refl

-- before the last verdict nothing is done
pub words-begun : (q : Queue) (request k : ℕ) (verdicts : List (ℕ × Verdict)) → length verdicts ≤ k → q ≡ record q { ongoing = map (decided_at request (drop k verdicts)) q.ongoing }
words-begun q request k verdicts all =
    ap (λ (rs : List Request). record q { ongoing = rs }) (sym (undecided request q.ongoing))
    ∙ ap (λ (vs : List (ℕ × Verdict)). record q { ongoing = map (decided_at request vs) q.ongoing }) (sym (drop_all k verdicts all))

-- the verdicts from the k-th on are done once the k-th is, after those behind it
pub words-next : (q now next : Queue) (request : ℕ) (verdicts : List (ℕ × Verdict)) (k : ℕ) (d : ℕ × Verdict) (word : Word) → k < length verdicts →
    now ≡ record q { ongoing = map (decided_at request (drop (k + 1) verdicts)) q.ongoing } → word ≡ word_of (get_or verdicts k d).1 →
    next ≡ after_set_floor now request (get_or verdicts k d).0 word →
    next ≡ record q { ongoing = map (decided_at request (drop k verdicts)) q.ongoing }
words-next q now next request verdicts k d word within done is stored =
    let v : ℕ × Verdict = get_or verdicts k d in
    stored
    ∙ ap (λ (w : Word). after_set_floor now request v.0 w) is
    ∙ ap (λ (x : Queue). after_set_floor x request v.0 (word_of v.1)) done
    ∙ ap (λ (rs : List Request). record q { ongoing = rs }) (word-after request v (drop (k + 1) verdicts) q.ongoing)
    ∙ ap (λ (vs : List (ℕ × Verdict)). record q { ongoing = map (decided_at request vs) q.ongoing }) (sym (drop_more verdicts k d within))
