-- Turns, as slots come to wait and have theirs.
use Rattle.std.proofs.Common.{◌≡◌, ◌≢◌, ℕ, zero, suc, ◌+◌, ◌<◌, Bool, true, false, cond, List, [], ◌∷◌, ◌++◌, length, get_or, refl, sym, ap, ◌∙◌, arith, subst, inl, inr, nat_eq, get_or-set_other}
use Rattle.std.specs.Prelude.{◌⊎◌, count_by, not}
use Rattle.std.proofs.Math.ListN.{set}
use Rattle.std.proofs.lemmas.Bool.Decides.{eqb_tells}
use Rattle.std.proofs.lemmas.List.{get_or-set_same, length-append}
use Rattle.std.proofs.lemmas.List.Sums.{sum_by-cons, sum_by-set, sum_by_push}
use Rattle.floor_sockets.specs.Rounds.{IsTurn, Rounds, SameQueues, queue_in, times, times_in, total_in, turn_of, new_turn}
use Rattle.floor_sockets.specs.steps.Rounds.{IsInTurn, stands_in}

pub eq_yes : (a b : ℕ) → a ≡ b → nat_eq a b ≡ true
eq_yes a b e = by (eqb_tells a b) where
  by : (((nat_eq a b ≡ true) × (a ≡ b)) ⊎ ((nat_eq a b ≡ false) × (a ≢ b))) → nat_eq a b ≡ true
  by (inl u) = u.0
  by (inr u) = absurd (u.1 e)

pub eq_no : (a b : ℕ) → a ≢ b → nat_eq a b ≡ false
eq_no a b ne = by (eqb_tells a b) where
  by : (((nat_eq a b ≡ true) × (a ≡ b)) ⊎ ((nat_eq a b ≡ false) × (a ≢ b))) → nat_eq a b ≡ false
  by (inl u) = absurd (ne u.1)
  by (inr u) = u.0

pub not_both : {A : Type 0} → true ≡ false → A
not_both e = absurd cc

pub one_of : (b : Bool) → b ≡ true → ◌≡◌ {A = ℕ} (cond b 1 0) 1
one_of true e = refl
one_of false e = absurd cc

pub none_of : (b : Bool) → b ≡ false → ◌≡◌ {A = ℕ} (cond b 1 0) 0
none_of false e = refl
none_of true e = absurd cc

if_false : (b : Bool) → false ≡ not b → b ≡ true
if_false true e = refl
if_false false e = absurd cc

if_true : (b : Bool) → true ≡ not b → b ≡ false
if_true false e = refl
if_true true e = absurd cc

-- how often a slot waits, where one group's queue is another
pub times-set : (w : List (List ℕ)) (g : ℕ) (q : List ℕ) (k : ℕ) → g < length w → times_in (set w g q) k + count_by (nat_eq k) (queue_in w g) ≡ times_in w k + count_by (nat_eq k) q
times-set w g q k h = sum_by-set (λ (p : List ℕ). count_by (nat_eq k) p) w g q [] h

pub total-set : (w : List (List ℕ)) (g : ℕ) (q : List ℕ) → g < length w → total_in (set w g q) + length (queue_in w g) ≡ total_in w + length q
total-set w g q h = sum_by-set (λ (p : List ℕ). length p) w g q [] h

pub count-push : (k : ℕ) (q : List ℕ) (x : ℕ) → count_by (nat_eq k) (q ++ x ∷ []) ≡ count_by (nat_eq k) q + cond (nat_eq k x) 1 0
count-push k q x = sum_by_push (λ (y : ℕ). cond (nat_eq k y) 1 0) q x

pub count-cons : (k x : ℕ) (q : List ℕ) → count_by (nat_eq k) (x ∷ q) ≡ cond (nat_eq k x) 1 0 + count_by (nat_eq k) q
count-cons k x q = sum_by-cons (λ (y : ℕ). cond (nat_eq k y) 1 0) x q

pub queue-other : (w : List (List ℕ)) (group g : ℕ) (q : List ℕ) → nat_eq group g ≡ false → queue_in (set w group q) g ≡ queue_in w g
queue-other w group g q e = let ne : g ≢ group = λ same. not_both (sym (eq_yes group g (sym same)) ∙ e) in rw get_or-set_other refl

-- a queue in which somebody stands is one of the queues
pub queue-there : (w : List (List ℕ)) (g slot : ℕ) (rest : List ℕ) → queue_in w g ≡ slot ∷ rest → g < length w
queue-there [] g slot rest e = absurd (none g e) where
  none : (g : ℕ) → queue_in [] g ≡ slot ∷ rest → ⊥
  none zero e = cc
  none (suc g) e = cc
queue-there (q ∷ w) zero slot rest e = omega arith
queue-there (q ∷ w) (suc g) slot rest e = let h = queue-there w g slot rest e in omega (arith, h)

stands-there : (st : List Bool) (k : ℕ) → stands_in st k ≡ true → k < length st
stands-there [] zero e = absurd cc
stands-there [] (suc k) e = absurd cc
stands-there (b ∷ st) zero e = omega arith
stands-there (b ∷ st) (suc k) e = let h = stands-there st k e in omega (arith, h)

stands-other : (st : List Bool) (slot k : ℕ) (b : Bool) → slot ≢ k → stands_in (set st slot b) k ≡ stands_in st k
stands-other st slot k b ne = let other : k ≢ slot = λ e. ne (sym e) in rw get_or-set_other refl

-- the sums of one change
one_more : (a b c d e : ℕ) → a + b ≡ c + d → d ≡ b + e → c ≡ 0 → e ≡ 1 → a ≡ 1
one_more a b c d e f g h i = omega arith

no_more : (a b c d e : ℕ) → a + b ≡ c + d → d ≡ b + e → e ≡ 0 → a ≡ c
no_more a b c d e f g h = omega arith

one_fewer : (a b c d e : ℕ) → a + b ≡ c + d → b ≡ e + d → c ≡ 1 → e ≡ 1 → a ≡ 0
one_fewer a b c d e f g h i = omega arith

no_fewer : (a b c d e : ℕ) → a + b ≡ c + d → b ≡ e + d → e ≡ 0 → a ≡ c
no_fewer a b c d e f g h = omega arith

-- a slot that didn't wait waits once
pub put_once : (w : List (List ℕ)) (group slot : ℕ) → group < length w → times_in w slot ≡ 0 → times_in (set w group (queue_in w group ++ slot ∷ [])) slot ≡ 1
put_once w group slot h none =
    one_more _ _ _ _ _ (times-set w group (queue_in w group ++ slot ∷ []) slot h) (count-push slot (queue_in w group) slot) none (one_of (nat_eq slot slot) (eq_yes slot slot refl))

pub put_others : (w : List (List ℕ)) (group slot k : ℕ) → group < length w → nat_eq slot k ≡ false → times_in (set w group (queue_in w group ++ slot ∷ [])) k ≡ times_in w k
put_others w group slot k h other =
    no_more _ _ _ _ _ (times-set w group (queue_in w group ++ slot ∷ []) k h) (count-push k (queue_in w group) slot)
    (none_of (nat_eq k slot) (eq_no k slot (λ e. not_both (sym (eq_yes slot k (sym e)) ∙ other))))

length-push : (q : List ℕ) (x : ℕ) → nat_eq (length (q ++ x ∷ [])) 0 ≡ false
length-push q x = eq_no (length (q ++ x ∷ [])) 0 (λ e. let n = length-append q (x ∷ []) in absurd (omega (arith, n, e)))

pub put_sound : (groups : List ℕ) (w : List (List ℕ)) (st : List Bool) (group slot : ℕ) (b : Bool) → IsInTurn groups w st → group < length w → slot < length st → stands_in st slot ≡ false
    → b ≡ nat_eq (length (queue_in w group)) 0 → IsInTurn (cond b (groups ++ group ∷ []) groups) (set w group (queue_in w group ++ slot ∷ [])) (set st slot true)
put_sound groups w st group slot b sound hg hs free is = record { once = λ k. once k (eqb_tells slot k); turns = λ g. turns g (eqb_tells group g) b is }
  where
    once : (k : ℕ) → (((nat_eq slot k ≡ true) × (slot ≡ k)) ⊎ ((nat_eq slot k ≡ false) × (slot ≢ k)))
        → times_in (set w group (queue_in w group ++ slot ∷ [])) k ≡ cond (stands_in (set st slot true) k) 1 0
    once k (inl u) =
        let none : times_in w slot ≡ 0 = sound.once slot ∙ none_of (stands_in st slot) free in
        subst (λ (z : ℕ). times_in (set w group (queue_in w group ++ slot ∷ [])) z ≡ cond (stands_in (set st slot true) z) 1 0) u.1
        (put_once w group slot hg none ∙ sym (one_of (stands_in (set st slot true) slot) (get_or-set_same st slot true false hs)))
    once k (inr u) = put_others w group slot k hg u.0 ∙ sound.once k ∙ ap (λ (t : Bool). cond t 1 0) (sym (stands-other st slot k true u.1))

    turns : (g : ℕ) → (((nat_eq group g ≡ true) × (group ≡ g)) ⊎ ((nat_eq group g ≡ false) × (group ≢ g))) → (b : Bool) → b ≡ nat_eq (length (queue_in w group)) 0
        → count_by (nat_eq g) (cond b (groups ++ group ∷ []) groups) ≡ cond (nat_eq (length (queue_in (set w group (queue_in w group ++ slot ∷ [])) g)) 0) 0 1
    turns g (inl u) b is =
        subst (λ (z : ℕ). count_by (nat_eq z) (cond b (groups ++ group ∷ []) groups) ≡ cond (nat_eq (length (queue_in (set w group (queue_in w group ++ slot ∷ [])) z)) 0) 0 1) u.1
        (here b is ∙ sym (ap (λ (l : List ℕ). cond (nat_eq (length l) 0) 0 1) (get_or-set_same w group (queue_in w group ++ slot ∷ []) [] hg) ∙ ap (λ (t : Bool). cond t 0 1) (length-push (queue_in w group) slot)))
      where
        here : (b : Bool) → b ≡ nat_eq (length (queue_in w group)) 0 → count_by (nat_eq group) (cond b (groups ++ group ∷ []) groups) ≡ 1
        here true is =
            count-push group groups group
            ∙ ap (λ (n : ℕ). n + cond (nat_eq group group) 1 0) (sound.turns group ∙ ap (λ (t : Bool). cond t 0 1) (sym is))
            ∙ ap (λ (n : ℕ). 0 + n) (one_of (nat_eq group group) (eq_yes group group refl))
        here false is = sound.turns group ∙ ap (λ (t : Bool). cond t 0 1) (sym is)
    turns g (inr u) b is = there b ∙ sound.turns g ∙ sym (ap (λ (l : List ℕ). cond (nat_eq (length l) 0) 0 1) (queue-other w group g (queue_in w group ++ slot ∷ []) u.0))
      where
        plus_none : (n m : ℕ) → m ≡ 0 → n + m ≡ n
        plus_none n m e = omega arith

        there : (b : Bool) → count_by (nat_eq g) (cond b (groups ++ group ∷ []) groups) ≡ count_by (nat_eq g) groups
        there true = count-push g groups group ∙ plus_none _ _ (none_of (nat_eq g group) (eq_no g group (λ e. u.1 (sym e))))
        there false = refl

-- who is first of a group that has the turn waits once
pub first_stands : (groups : List ℕ) (w : List (List ℕ)) (st : List Bool) (group slot : ℕ) (rest : List ℕ) → IsInTurn groups w st → queue_in w group ≡ slot ∷ rest → stands_in st slot ≡ true
first_stands groups w st group slot rest sound first = by (stands_in st slot) refl
  where
    some : (a b c d : ℕ) → a + b ≡ c + d → b ≡ 1 + d → c ≡ 0 → ⊥
    some a b c d e f g = omega arith

    by : (t : Bool) → stands_in st slot ≡ t → stands_in st slot ≡ true
    by true e = e
    by false e =
        let sums = times-set w group rest slot (queue-there w group slot rest first) in
        let counted : count_by (nat_eq slot) (queue_in w group) ≡ 1 + count_by (nat_eq slot) rest =
        ap (λ (l : List ℕ). count_by (nat_eq slot) l) first ∙ count-cons slot slot rest ∙ ap (λ (n : ℕ). n + count_by (nat_eq slot) rest) (one_of (nat_eq slot slot) (eq_yes slot slot refl)) in
        absurd (some _ _ _ _ sums counted (sound.once slot ∙ none_of (stands_in st slot) e))

pub turn_was : (groups : List ℕ) (w : List (List ℕ)) (st : List Bool) (group slot : ℕ) (rest : List ℕ) → IsInTurn groups w st → queue_in w group ≡ slot ∷ rest → times_in w slot ≡ 1
turn_was groups w st group slot rest sound first = sound.once slot ∙ one_of (stands_in st slot) (first_stands groups w st group slot rest sound first)

-- and then no more
pub turn_none : (groups : List ℕ) (w : List (List ℕ)) (st : List Bool) (group slot : ℕ) (rest : List ℕ) → IsInTurn groups w st → queue_in w group ≡ slot ∷ rest → times_in (set w group rest) slot ≡ 0
turn_none groups w st group slot rest sound first =
    one_fewer _ _ _ _ _ (times-set w group rest slot (queue-there w group slot rest first))
    (ap (λ (l : List ℕ). count_by (nat_eq slot) l) first ∙ count-cons slot slot rest)
    (turn_was groups w st group slot rest sound first) (one_of (nat_eq slot slot) (eq_yes slot slot refl))

pub turn_others : (w : List (List ℕ)) (group slot k : ℕ) (rest : List ℕ) → queue_in w group ≡ slot ∷ rest → nat_eq slot k ≡ false → times_in (set w group rest) k ≡ times_in w k
turn_others w group slot k rest first other =
    no_fewer _ _ _ _ _ (times-set w group rest k (queue-there w group slot rest first))
    (ap (λ (l : List ℕ). count_by (nat_eq k) l) first ∙ count-cons k slot rest)
    (none_of (nat_eq k slot) (eq_no k slot (λ e. not_both (sym (eq_yes slot k (sym e)) ∙ other))))

pub turn_fewer : (w : List (List ℕ)) (group slot : ℕ) (rest : List ℕ) → queue_in w group ≡ slot ∷ rest → total_in (set w group rest) < total_in w
turn_fewer w group slot rest first = fewer _ _ _ _ (total-set w group rest (queue-there w group slot rest first)) (ap length first)
  where
    fewer : (a b c d : ℕ) → a + b ≡ c + d → b ≡ suc d → a < c
    fewer a b c d e f = omega arith

pub turn_sound : (behind : List ℕ) (w : List (List ℕ)) (st : List Bool) (group slot : ℕ) (rest : List ℕ) (b : Bool) → IsInTurn (group ∷ behind) w st → queue_in w group ≡ slot ∷ rest
    → b ≡ not (nat_eq (length rest) 0) → IsInTurn (cond b (behind ++ group ∷ []) behind) (set w group rest) (set st slot false)
turn_sound behind w st group slot rest b sound first is = record { once = λ k. once k (eqb_tells slot k); turns = λ g. turns g (eqb_tells group g) }
  where
    hg : group < length w
    hg = queue-there w group slot rest first

    hs : slot < length st
    hs = stands-there st slot (first_stands (group ∷ behind) w st group slot rest sound first)

    once : (k : ℕ) → (((nat_eq slot k ≡ true) × (slot ≡ k)) ⊎ ((nat_eq slot k ≡ false) × (slot ≢ k))) → times_in (set w group rest) k ≡ cond (stands_in (set st slot false) k) 1 0
    once k (inl u) =
        subst (λ (z : ℕ). times_in (set w group rest) z ≡ cond (stands_in (set st slot false) z) 1 0) u.1
        (turn_none (group ∷ behind) w st group slot rest sound first ∙ sym (none_of (stands_in (set st slot false) slot) (get_or-set_same st slot false false hs)))
    once k (inr u) = turn_others w group slot k rest first u.0 ∙ sound.once k ∙ ap (λ (t : Bool). cond t 1 0) (sym (stands-other st slot k false u.1))

    -- the group's other turns: none
    was : count_by (nat_eq group) behind ≡ 0
    was = none _ _ _ (count-cons group group behind) (one_of (nat_eq group group) (eq_yes group group refl))
        (sound.turns group ∙ ap (λ (l : List ℕ). cond (nat_eq (length l) 0) 0 1) first ∙ ap (λ (t : Bool). cond t 0 1) (eq_no (length (slot ∷ rest)) 0 (λ e. absurd (omega (arith, e)))))
      where
        none : (a b c : ℕ) → a ≡ b + c → b ≡ 1 → a ≡ 1 → c ≡ 0
        none a b c e f g = omega arith

    here : (b : Bool) → b ≡ not (nat_eq (length rest) 0) → count_by (nat_eq group) (cond b (behind ++ group ∷ []) behind) ≡ cond (nat_eq (length rest) 0) 0 1
    here false is = was ∙ ap (λ (t : Bool). cond t 0 1) (sym (if_false (nat_eq (length rest) 0) is))
    here true is =
        count-push group behind group ∙ ap (λ (n : ℕ). n + cond (nat_eq group group) 1 0) was ∙ ap (λ (n : ℕ). 0 + n) (one_of (nat_eq group group) (eq_yes group group refl))
        ∙ ap (λ (t : Bool). cond t 0 1) (sym (if_true (nat_eq (length rest) 0) is))

    turns : (g : ℕ) → (((nat_eq group g ≡ true) × (group ≡ g)) ⊎ ((nat_eq group g ≡ false) × (group ≢ g)))
        → count_by (nat_eq g) (cond b (behind ++ group ∷ []) behind) ≡ cond (nat_eq (length (queue_in (set w group rest) g)) 0) 0 1
    turns g (inl u) =
        subst (λ (z : ℕ). count_by (nat_eq z) (cond b (behind ++ group ∷ []) behind) ≡ cond (nat_eq (length (queue_in (set w group rest) z)) 0) 0 1) u.1
        (here b is ∙ sym (ap (λ (l : List ℕ). cond (nat_eq (length l) 0) 0 1) (get_or-set_same w group rest [] hg)))
    turns g (inr u) =
        there b ∙ sym (plus _ _ _ (count-cons g group behind) apart) ∙ sound.turns g ∙ sym (ap (λ (l : List ℕ). cond (nat_eq (length l) 0) 0 1) (queue-other w group g rest u.0))
      where
        apart : ◌≡◌ {A = ℕ} (cond (nat_eq g group) 1 0) 0
        apart = none_of (nat_eq g group) (eq_no g group (λ e. u.1 (sym e)))

        plus : (a b c : ℕ) → a ≡ b + c → b ≡ 0 → a ≡ c
        plus a b c e f = omega arith

        plus_none : (n m : ℕ) → m ≡ 0 → n + m ≡ n
        plus_none n m e = omega arith

        there : (b : Bool) → count_by (nat_eq g) (cond b (behind ++ group ∷ []) behind) ≡ count_by (nat_eq g) behind
        there false = refl
        there true = count-push g behind group ∙ plus_none _ _ apart

-- where no group has a turn nobody waits
pub nobody : (w : List (List ℕ)) (st : List Bool) → IsInTurn [] w st → (k : ℕ) → times_in w k ≡ 0
nobody w st sound k = all_empty w (λ g. empty (nat_eq (length (queue_in w g)) 0) (length (queue_in w g)) refl (sound.turns g))
  where
    empty : (b : Bool) (n : ℕ) → nat_eq n 0 ≡ b → ◌≡◌ {A = ℕ} 0 (cond b 0 1) → n ≡ 0
    empty true n is e = by (eqb_tells n 0) where
      by : (((nat_eq n 0 ≡ true) × (n ≡ 0)) ⊎ ((nat_eq n 0 ≡ false) × (n ≢ 0))) → n ≡ 0
      by (inl u) = u.1
      by (inr u) = absurd (not_both (sym is ∙ u.0))
    empty false n is e = absurd (omega (arith, e))

    none_counted : (q : List ℕ) → length q ≡ 0 → count_by (nat_eq k) q ≡ 0
    none_counted [] e = refl
    none_counted (x ∷ q) e = absurd (omega (arith, e))

    all_empty : (w : List (List ℕ)) → ((g : ℕ) → length (queue_in w g) ≡ 0) → times_in w k ≡ 0
    all_empty [] h = refl
    all_empty (q ∷ w) h =
        sum_by-cons (λ (p : List ℕ). count_by (nat_eq k) p) q w ∙ ap (λ (n : ℕ). n + times_in w k) (none_counted q (h 0)) ∙ ap (λ (n : ℕ). 0 + n) (all_empty w (λ g. h (suc g)))

-- of a group that has the turn somebody waits
pub somebody : (behind : List ℕ) (w : List (List ℕ)) (st : List Bool) (group : ℕ) → IsInTurn (group ∷ behind) w st → queue_in w group ≡ [] → ⊥
somebody behind w st group sound none =
    some _ _ _ (count-cons group group behind) (one_of (nat_eq group group) (eq_yes group group refl)) (sound.turns group ∙ ap (λ (l : List ℕ). cond (nat_eq (length l) 0) 0 1) none)
  where
    some : (a b c : ℕ) → a ≡ b + c → b ≡ 1 → a ≡ 0 → ⊥
    some a b c e f g = omega arith

-- the same with one queue more, in which nobody waits
pub grown : {A : Type 0} (xs : List A) (d : A) (i : ℕ) → get_or (xs ++ d ∷ []) i d ≡ get_or xs i d
grown [] d zero = refl
grown [] d (suc i) = past i where
  past : (i : ℕ) → get_or [] i d ≡ get_or [] (suc i) d
  past zero = refl
  past (suc i) = refl
grown (x ∷ xs) d zero = refl
grown (x ∷ xs) d (suc i) = grown xs d i

pub times-grown : (w : List (List ℕ)) (k : ℕ) → times_in (w ++ [] ∷ []) k ≡ times_in w k
times-grown w k = plus _ _ (sum_by_push (λ (p : List ℕ). count_by (nat_eq k) p) w [])
  where
    plus : (a b : ℕ) → a ≡ b + 0 → a ≡ b
    plus a b e = omega arith

append_none : (xs : List ℕ) → xs ++ [] ≡ xs
append_none [] = refl
append_none (x ∷ xs) = ap (λ (l : List ℕ). x ∷ l) (append_none xs)

-- the turns of groups behind a put, and behind a turn
pub put_behind : (groups q : List ℕ) (group : ℕ) (b : Bool) → b ≡ nat_eq (length q) 0 → cond b (groups ++ group ∷ []) groups ≡ groups ++ new_turn group q
put_behind groups [] group b is = ap (λ (t : Bool). cond t (groups ++ group ∷ []) groups) is
put_behind groups (x ∷ q) group b is = ap (λ (t : Bool). cond t (groups ++ group ∷ []) groups) (is ∙ eq_no (length (x ∷ q)) 0 (λ e. absurd (omega (arith, e)))) ∙ sym (append_none groups)

pub turn_behind : (behind rest : List ℕ) (group : ℕ) (b : Bool) → b ≡ not (nat_eq (length rest) 0) → cond b (behind ++ group ∷ []) behind ≡ behind ++ turn_of group rest
turn_behind behind [] group b is = ap (λ (t : Bool). cond t (behind ++ group ∷ []) behind) is ∙ sym (append_none behind)
turn_behind behind (x ∷ rest) group b is =
    ap (λ (t : Bool). cond t (behind ++ group ∷ []) behind) (is ∙ ap (λ (t : Bool). not t) (eq_no (length (x ∷ rest)) 0 (λ e. absurd (omega (arith, e)))))

-- where each group's queue is the same, each slot waits as often
pub times-same : (w v : List (List ℕ)) (k : ℕ) → ((g : ℕ) → queue_in w g ≡ queue_in v g) → times_in w k ≡ times_in v k
times-same [] [] k same = refl
times-same [] (q ∷ v) k same = sym (sum_by-cons (λ (p : List ℕ). count_by (nat_eq k) p) q v ∙ none_more _ _ (ap (λ (p : List ℕ). count_by (nat_eq k) p) (sym (same 0))) ∙ sym (times-same [] v k (λ g. none g ∙ same (suc g))))
  where
    none_more : (a b : ℕ) → a ≡ 0 → a + b ≡ b
    none_more a b e = omega arith

    none : (g : ℕ) → queue_in [] g ≡ queue_in [] (suc g)
    none zero = refl
    none (suc g) = refl
times-same (q ∷ w) [] k same = sum_by-cons (λ (p : List ℕ). count_by (nat_eq k) p) q w ∙ none_more _ _ (ap (λ (p : List ℕ). count_by (nat_eq k) p) (same 0)) ∙ times-same w [] k (λ g. same (suc g) ∙ none g)
  where
    none_more : (a b : ℕ) → a ≡ 0 → a + b ≡ b
    none_more a b e = omega arith

    none : (g : ℕ) → queue_in [] (suc g) ≡ queue_in [] g
    none zero = refl
    none (suc g) = refl
times-same (q ∷ w) (p ∷ v) k same =
    sum_by-cons (λ (p : List ℕ). count_by (nat_eq k) p) q w
    ∙ both _ _ _ _ (ap (λ (p : List ℕ). count_by (nat_eq k) p) (same 0)) (times-same w v k (λ g. same (suc g)))
    ∙ sym (sum_by-cons (λ (p : List ℕ). count_by (nat_eq k) p) p v)
  where
    both : (a b c d : ℕ) → a ≡ c → b ≡ d → a + b ≡ c + d
    both a b c d e f = omega arith

-- one has had its turn: who waits, who has its mark and whose turns there are agree still
pub next_sound : (groups behind after : List ℕ) (w v : List (List ℕ)) (st su : List Bool) (group slot : ℕ) (rest : List ℕ) (b : Bool) → IsInTurn groups w st → groups ≡ group ∷ behind
    → queue_in w group ≡ slot ∷ rest → v ≡ set w group rest → b ≡ not (nat_eq (length rest) 0) → su ≡ set st slot false → after ≡ cond b (behind ++ group ∷ []) behind → IsInTurn after v su
next_sound groups behind after w v st su group slot rest b sound first served left is mark again =
    subst (λ (z : List ℕ). IsInTurn z v su) (sym again)
    (subst (λ (z : List (List ℕ)). IsInTurn (cond b (behind ++ group ∷ []) behind) z su) (sym left)
    (subst (λ (z : List Bool). IsInTurn (cond b (behind ++ group ∷ []) behind) (set w group rest) z) (sym mark)
    (turn_sound behind w st group slot rest b (subst (λ (z : List ℕ). IsInTurn z w st) first sound) served is)))

-- and it was the first of the first group
pub next_turn : (groups behind after : List ℕ) (w v : List (List ℕ)) (group slot : ℕ) (rest : List ℕ) (b : Bool) → groups ≡ group ∷ behind → queue_in w group ≡ slot ∷ rest → v ≡ set w group rest
    → b ≡ not (nat_eq (length rest) 0) → after ≡ cond b (behind ++ group ∷ []) behind → IsTurn (record { groups = groups; waiting = w }) (record { groups = after; waiting = v }) slot
next_turn groups behind after w v group slot rest b first served left is again = record {
  group = group;
  behind = behind;
  first = first;
  served = served ∙ ap (λ (q : List ℕ). slot ∷ q) (sym now);
  others = λ g e. ap (λ (z : List (List ℕ)). queue_in z g) left ∙ queue-other w group g rest e;
  again = again ∙ turn_behind behind rest group b is ∙ ap (λ (q : List ℕ). behind ++ turn_of group q) (sym now);
}
  where
    now : queue_in v group ≡ rest
    now = ap (λ (z : List (List ℕ)). queue_in z group) left ∙ get_or-set_same w group rest [] (queue-there w group slot rest served)

-- it waits no more
pub next_none : (groups : List ℕ) (w v : List (List ℕ)) (st : List Bool) (group slot : ℕ) (rest : List ℕ) → IsInTurn groups w st → queue_in w group ≡ slot ∷ rest → v ≡ set w group rest → times_in v slot ≡ 0
next_none groups w v st group slot rest sound served left = ap (λ (z : List (List ℕ)). times_in z slot) left ∙ turn_none groups w st group slot rest sound served

-- where the same wait, each waits as often
pub same_times : (old new : Rounds) → SameQueues old new → (k : ℕ) → times new k ≡ times old k
same_times old new same k = times-same new.waiting old.waiting k same.queues
