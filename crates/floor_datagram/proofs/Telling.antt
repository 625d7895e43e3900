-- Of each subject the newest is told.
use Rattle.std.proofs.Common.{◌≡◌, ℕ, ◌+◌, ◌==◌, Bool, true, false, cond, ◌&&◌, List, [], ◌∷◌, ◌++◌, length, take, Option, Some, None, refl, sym, ap, subst, ◌∙◌, append-nil, append_assoc, if◌then◌else◌, length-append, eq-eqb}
use Rattle.std.specs.List.{position_from}
use Rattle.std.proofs.lemmas.Iterator.Adapters.{position_from-zero}
use Rattle.std.proofs.Math.Seq.{set-append_seam}
use Rattle.std.proofs.lemmas.Bool.{eqb-true}
use Rattle.floor_datagram.specs.Datagrams.{primitive_of}
use Rattle.floor_datagram.specs.Notices.{Notices, Out, is_same_subject, subject_number, put, put_at, waits, told, keeps_still, pumped, pumped_with, is_out, is_out_as, closed_with, pace_with, acknowledged}
use Rattle.floor_datagram.specs.Pace.{Pace}
use Rattle.floor_datagram.specs.Newest.{first_of, or_else, newest_of, IsDistinct, IsNewest, beginning, begun_behind}

-- ---- a message put in its place, from the front on

abbrev pub placed : List ℕ → List (List ℕ) → List (List ℕ)
placed m [] = m ∷ []
placed m (w ∷ ws) = if is_same_subject m w then m ∷ ws else w ∷ placed m ws

placed-step : (m w : List ℕ) (before ws : List (List ℕ)) (b : Bool)
    → put_at (position_from (λ n. is_same_subject m n) (length (before ++ w ∷ [])) ws) m ((before ++ w ∷ []) ++ ws) ≡ (before ++ w ∷ []) ++ placed m ws
    → put_at (cond b (Some (length before)) (position_from (λ n. is_same_subject m n) (length before + 1) ws)) m (before ++ w ∷ ws) ≡ before ++ (if b then m ∷ ws else w ∷ placed m ws)
placed-step m w before ws true rest = set-append_seam before w ws m
placed-step m w before ws false rest =
    let next : length (before ++ w ∷ []) ≡ length before + 1 = length-append before (w ∷ []) in
    ap (λ k. put_at (position_from (λ n. is_same_subject m n) k ws) m (before ++ w ∷ ws)) (sym next)
    ∙ ap (λ l. put_at (position_from (λ n. is_same_subject m n) (length (before ++ w ∷ [])) ws) m l) (sym (append_assoc before (w ∷ []) ws))
    ∙ rest ∙ append_assoc before (w ∷ []) (placed m ws)

placed-from : (m : List ℕ) (before ws : List (List ℕ)) → put_at (position_from (λ n. is_same_subject m n) (length before) ws) m (before ++ ws) ≡ before ++ placed m ws
placed-from m before [] = ap (λ l. l ++ m ∷ []) (append-nil before)
placed-from m before (w ∷ ws) = placed-step m w before ws (is_same_subject m w) (placed-from m (before ++ w ∷ []) ws)

pub put-placed : (m : List ℕ) (ws : List (List ℕ)) → put m ws ≡ placed m ws
put-placed m ws = ap (λ p. put_at p m ws) (position_from-zero (λ n. is_same_subject m n) ws) ∙ placed-from m [] ws

-- ---- subjects

and-true : (a b : Bool) → (a && b) ≡ true → (a ≡ true) × (b ≡ true)
and-true true b h = (refl, h)
and-true false b h = absurd (cc h)

same-number : (a b : ℕ) → (a == b) ≡ true → a ≡ b
same-number a b h = eqb-true a b h

-- what is of one's subject is of the subject of whatever is of the same
same-through : (q m w : List ℕ) → is_same_subject m w ≡ true → is_same_subject q m ≡ is_same_subject q w
same-through q m w h =
    let parts = and-true (primitive_of m == primitive_of w) (subject_number m == subject_number w) h in
    let p : primitive_of m ≡ primitive_of w = same-number _ _ parts.0 in
    let s : subject_number m ≡ subject_number w = same-number _ _ parts.1 in
    ap (λ x. (primitive_of q == x) && (subject_number q == subject_number m)) p ∙ ap (λ x. (primitive_of q == primitive_of w) && (subject_number q == x)) s

same-from : (q m w : List ℕ) → is_same_subject q m ≡ true → is_same_subject m w ≡ is_same_subject q w
same-from q m w h =
    let parts = and-true (primitive_of q == primitive_of m) (subject_number q == subject_number m) h in
    let p : primitive_of q ≡ primitive_of m = same-number _ _ parts.0 in
    let s : subject_number q ≡ subject_number m = same-number _ _ parts.1 in
    ap (λ x. (x == primitive_of w) && (subject_number m == subject_number w)) (sym p) ∙ ap (λ x. (primitive_of q == primitive_of w) && (x == subject_number w)) (sym s)

both : (a b : Bool) → a ≡ true → b ≡ true → (a && b) ≡ true
both a b p q = ap (λ x. x && b) p ∙ q

same-self : (m : List ℕ) → is_same_subject m m ≡ true
same-self m = both (primitive_of m == primitive_of m) (subject_number m == subject_number m) (eq-eqb _ _ refl) (eq-eqb _ _ refl)

-- the other way round
pub same-turned : (w m : List ℕ) → is_same_subject m w ≡ false → is_same_subject w m ≡ false
same-turned w m h = by (is_same_subject w m) refl
  where
    by : (b : Bool) → is_same_subject w m ≡ b → is_same_subject w m ≡ false
    by false is = is
    by true is = absurd (cc (sym h ∙ same-from w m w is ∙ same-self w))

-- ---- what waits

first_of-step : (q m w : List ℕ) (ws : List (List ℕ)) (a b c : Bool) → is_same_subject m w ≡ a → is_same_subject q m ≡ b → is_same_subject q w ≡ c
    → first_of q (placed m ws) ≡ (if b then Some m else first_of q ws)
    → first_of q (if a then m ∷ ws else w ∷ placed m ws) ≡ (if b then Some m else if c then Some w else first_of q ws)
first_of-step q m w ws true true c mw qm qw rest = ap (λ x. if x then Some m else first_of q ws) qm
first_of-step q m w ws true false true mw qm qw rest = absurd (cc (sym qm ∙ same-through q m w mw ∙ qw))
first_of-step q m w ws true false false mw qm qw rest = ap (λ x. if x then Some m else first_of q ws) qm
first_of-step q m w ws false true true mw qm qw rest = absurd (cc (sym mw ∙ same-from q m w qm ∙ qw))
first_of-step q m w ws false true false mw qm qw rest = ap (λ x. if x then Some w else first_of q (placed m ws)) qw ∙ rest
first_of-step q m w ws false false true mw qm qw rest = ap (λ x. if x then Some w else first_of q (placed m ws)) qw
first_of-step q m w ws false false false mw qm qw rest = ap (λ x. if x then Some w else first_of q (placed m ws)) qw ∙ rest

first_of-placed : (q m : List ℕ) (ws : List (List ℕ)) → first_of q (placed m ws) ≡ (if is_same_subject q m then Some m else first_of q ws)
first_of-placed q m [] = refl
first_of-placed q m (w ∷ ws) = first_of-step q m w ws (is_same_subject m w) (is_same_subject q m) (is_same_subject q w) refl refl refl (first_of-placed q m ws)

-- what is of one subject finds the same
pub first_of-same : (m w : List ℕ) (ws : List (List ℕ)) → is_same_subject m w ≡ true → first_of w ws ≡ first_of m ws
first_of-same m w [] h = refl
first_of-same m w (x ∷ ws) h =
    ap (λ b. if b then Some x else first_of w ws) (same-from m w x h) ∙ ap (λ o. if is_same_subject m x then Some x else o) (first_of-same m w ws h)

distinct-step : (m w : List ℕ) (ws : List (List ℕ)) (b : Bool) → is_same_subject m w ≡ b → IsDistinct (w ∷ ws) → IsDistinct (placed m ws)
    → IsDistinct (if b then m ∷ ws else w ∷ placed m ws)
distinct-step m w ws true is d rest = (sym (first_of-same m w ws is) ∙ d.0, d.1)
distinct-step m w ws false is d rest =
    (first_of-placed w m ws ∙ ap (λ b. if b then Some m else first_of w ws) (same-turned w m is) ∙ d.0, rest)

pub distinct-placed : (m : List ℕ) (ws : List (List ℕ)) → IsDistinct ws → IsDistinct (placed m ws)
distinct-placed m [] d = (refl, tt)
distinct-placed m (w ∷ ws) d = distinct-step m w ws (is_same_subject m w) refl d (distinct-placed m ws d.1)

-- ---- what was told

or_else-if : (b : Bool) (m : List ℕ) (o p : Option (List ℕ)) → or_else (if b then Some m else o) p ≡ (if b then Some m else or_else o p)
or_else-if true m o p = refl
or_else-if false m o p = refl

newest_of-snoc : (q m : List ℕ) (ms : List (List ℕ)) → newest_of q (ms ++ m ∷ []) ≡ (if is_same_subject q m then Some m else newest_of q ms)
newest_of-snoc q m [] = refl
newest_of-snoc q m (x ∷ ms) =
    ap (λ o. or_else o (if is_same_subject q x then Some x else None)) (newest_of-snoc q m ms)
    ∙ or_else-if (is_same_subject q m) m (newest_of q ms) (if is_same_subject q x then Some x else None)

-- ---- steps

-- what holds of what waits, whether one is out or not
pub record Standing (said told : List (List ℕ)) (waiting : List (List ℕ)) : Type 0 where
  pub newest : (q : List ℕ) → newest_of q said ≡ or_else (first_of q waiting) (newest_of q told)
  pub distinct : IsDistinct waiting

standing : (said told : List (List ℕ)) (n : Notices) → IsNewest said told n → Standing said told n.waiting
standing said told n i = record { newest = i.newest; distinct = i.distinct }

-- a message waits
standing-put : (said told waiting : List (List ℕ)) (m : List ℕ) → Standing said told waiting → Standing (said ++ m ∷ []) told (put m waiting)
standing-put said told waiting m s = record {
  newest = λ q. newest_of-snoc q m said ∙ ap (λ o. if is_same_subject q m then Some m else o) (s.newest q)
      ∙ sym (or_else-if (is_same_subject q m) m (first_of q waiting) (newest_of q told))
      ∙ ap (λ o. or_else o (newest_of q told)) (sym (first_of-placed q m waiting) ∙ ap (λ l. first_of q l) (sym (put-placed m waiting)));
  distinct = let P : List (List ℕ) → Type 0 = λ l. IsDistinct l in subst P (sym (put-placed m waiting)) (distinct-placed m waiting s.distinct);
}

-- the first that waits is told
begin-newest : (q m : List ℕ) (said told ms : List (List ℕ)) (b : Bool) → is_same_subject q m ≡ b → first_of m ms ≡ None
    → newest_of q said ≡ or_else (if b then Some m else first_of q ms) (newest_of q told)
    → newest_of q said ≡ or_else (first_of q ms) (newest_of q (told ++ m ∷ []))
begin-newest q m said told ms true is alone before =
    before ∙ sym (ap (λ o. or_else o (newest_of q (told ++ m ∷ []))) (sym (first_of-same q m ms is) ∙ alone)
    ∙ newest_of-snoc q m told ∙ ap (λ b. if b then Some m else newest_of q told) is)
begin-newest q m said told ms false is alone before =
    before ∙ ap (λ o. or_else (first_of q ms) o) (sym (newest_of-snoc q m told ∙ ap (λ b. if b then Some m else newest_of q told) is))

no-more : (said told : List (List ℕ)) (n : Notices) → IsNewest said told n → IsNewest said (told ++ []) n
no-more said told n i = let P : List (List ℕ) → Type 0 = λ l. IsNewest said l n in subst P (sym (append-nil told)) i

some-not-none : {A : Type 0} (o : A) (x : Option A) → x ≡ Some o → x ≡ None → ⊥
some-not-none o x p q = cc (sym p ∙ q)

pub pumped-newest : (said told : List (List ℕ)) (n : Notices) (last : Option ℕ) (limit now : ℕ) (o : Option Out) (ws : List (List ℕ)) → n.out ≡ o → n.waiting ≡ ws
    → Standing said told n.waiting → IsNewest said (told ++ beginning o ws) (pumped_with o ws n last limit now).after
pumped-newest said told n last limit now (Some o) ws out is s =
    no-more said told n (record { newest = s.newest; distinct = s.distinct; idle = λ none. absurd (some-not-none o n.out out none) })
pumped-newest said told n last limit now None [] out is s =
    no-more said told n (record { newest = s.newest; distinct = s.distinct; idle = λ none. is })
pumped-newest said told n last limit now None (m ∷ ms) out is s =
    let front : Standing said told (m ∷ ms) = subst (λ (l : List (List ℕ)). Standing said told l) is s in
    record {
      newest = λ q. begin-newest q m said told ms (is_same_subject q m) refl front.distinct.0 (front.newest q);
      distinct = front.distinct.1;
      idle = λ none. absurd (cc none);
    }

-- a message is told
pub told-newest : (said told_before : List (List ℕ)) (n : Notices) (last : Option ℕ) (limit now : ℕ) (m : List ℕ) → IsNewest said told_before n
    → IsNewest (said ++ m ∷ []) (told_before ++ beginning n.out (put m n.waiting)) (told n last limit now m).after
told-newest said told_before n last limit now m i =
    pumped-newest (said ++ m ∷ []) told_before (waits n m) last limit now n.out (put m n.waiting) refl refl (standing-put said told_before n.waiting m (standing said told_before n i))

out-some : (o : Option Out) → is_out o ≡ true → o ≡ None → ⊥
out-some (Some x) h none = cc none
out-some None h none = cc h

-- an answer that crosses a notice waits
pub waits-newest : (said told_before : List (List ℕ)) (n : Notices) (m : List ℕ) → is_out n.out ≡ true → IsNewest said told_before n
    → IsNewest (said ++ m ∷ []) told_before (waits n m)
waits-newest said told_before n m out i =
    let s = standing-put said told_before n.waiting m (standing said told_before n i) in
    record { newest = s.newest; distinct = s.distinct; idle = λ none. absurd (out-some n.out out none) }

-- an answer that is sent while no notice is out
pub answered-newest : (said told_before : List (List ℕ)) (n : Notices) (m : List ℕ) → n.out ≡ None → IsNewest said told_before n
    → IsNewest (said ++ m ∷ []) (told_before ++ m ∷ []) n
answered-newest said told_before n m none i = record {
  newest = λ q. newest_of-snoc q m said ∙ ap (λ o. if is_same_subject q m then Some m else o) (i.newest q ∙ ap (λ l. or_else (first_of q l) (newest_of q told_before)) (i.idle none))
      ∙ sym (newest_of-snoc q m told_before) ∙ ap (λ l. or_else (first_of q l) (newest_of q (told_before ++ m ∷ []))) (sym (i.idle none));
  distinct = i.distinct;
  idle = i.idle;
}

ack-newest : (said told_before : List (List ℕ)) (n : Notices) (last : Option ℕ) (limit now : ℕ) (pace : Pace) (c : Bool) → IsNewest said told_before n
    → IsNewest said (told_before ++ (if c then take 1 n.waiting else []))
    (if c then pumped (if c then record n { out = None; pace = pace } else n) last limit now else keeps_still n).after
ack-newest said told_before n last limit now pace true i =
    pumped-newest said told_before (record n { out = None; pace = pace }) last limit now None n.waiting refl refl (standing said told_before n i)
ack-newest said told_before n last limit now pace false i = no-more said told_before n i

ack-by : (said told_before : List (List ℕ)) (n : Notices) (last : Option ℕ) (limit now id : ℕ) (o : Option Out) → IsNewest said told_before n
    → IsNewest said (told_before ++ (if is_out_as id o then take 1 n.waiting else []))
    (if is_out_as id o then pumped (closed_with o n now id) last limit now else keeps_still n).after
ack-by said told_before n last limit now id None i = no-more said told_before n i
ack-by said told_before n last limit now id (Some o) i = ack-newest said told_before n last limit now (pace_with n.pace o now) (o.id == id) i

-- an acknowledgement
pub acknowledged-newest : (said told_before : List (List ℕ)) (n : Notices) (last : Option ℕ) (limit now id : ℕ) → IsNewest said told_before n
    → IsNewest said (told_before ++ begun_behind id n) (acknowledged n last limit now id).after
acknowledged-newest said told_before n last limit now id i = ack-by said told_before n last limit now id n.out i
