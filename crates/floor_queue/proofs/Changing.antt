-- One request changes at its place.
use Rattle.std.proofs.Common.{◌≡◌, ℕ, ◌≤◌, ◌<◌, ◌+◌, Bool, true, false, cond, List, [], ◌∷◌, length, get_or, set, refl, sym, ◌∙◌, ap, subst, arith, map}
use Rattle.std.specs.Prelude.{not, ◌||◌, ◌==◌, if◌then◌else◌, count_by, find, Some, ◌++◌}
use Rattle.std.specs.List.{list_any, position_or_len}
use Rattle.std.proofs.Math.Numerals.{one-add}
use Rattle.std.proofs.lemmas.Bool.Decides.{nat_tests}
use Rattle.std.proofs.lemmas.List.{get_or-set_same, get_or_default}
use Rattle.std.proofs.lemmas.List.Folds.{find_at}
use Rattle.std.proofs.lemmas.Option.{slice_get-get_or}
use Rattle.floor_config.specs.declared.floors.Floor.{Floor}
use Rattle.floor_queue.specs.declared.index.rank.Rank.{Rank}
use Rattle.floor_queue.specs.declared.request.Request.{Request}
use Rattle.floor_queue.specs.Order.{names, waits, holders, ahead, granted_if}
use Rattle.floor_queue.specs.Queue.{is_ascending, request_at}
use Rattle.floor_queue.specs.steps.Lines.{FloorLine, IsLine, AreLines, moved, rank_of, place_in}
use Rattle.floor_queue.proofs.Counts.{and_left, and_right}
use Rattle.floor_queue.proofs.Lining.{changed_at, unchanged, AreLines-changed, found_line, holders-line, place-line}

pub set-place : (k : ℕ) (g : Request → Request) (rs : List Request) (d : Request) → is_ascending rs ≡ true → position_or_len (λ r. r.number == k) rs < length rs →
    set rs (position_or_len (λ r. r.number == k) rs) (g (get_or rs (position_or_len (λ r. r.number == k) rs) d)) ≡ map (changed_at k g) rs
set-place k g [] d h within = absurd (omega (arith, within))
set-place k g (x ∷ xs) d h within = by (x.number == k) refl (set-place k g xs d (and_right _ _ h)) within
  where
    at : ℕ
    at = position_or_len (λ (r : Request). r.number == k) xs

    by : (b : Bool) → b ≡ (x.number == k) → (at < length xs → set xs at (g (get_or xs at d)) ≡ map (changed_at k g) xs) → cond (not b) (1 + at) 0 < length (x ∷ xs) →
        set (x ∷ xs) (cond (not b) (1 + at) 0) (g (get_or (x ∷ xs) (cond (not b) (1 + at) 0) d)) ≡ (if b then g x else x) ∷ map (changed_at k g) xs
    by true e rest l = ap (λ (ys : List Request). g x ∷ ys) (sym (unchanged k g x.number xs e (and_left _ _ h)))
    by false e rest l = rw (one-add at) (ap (λ (ys : List Request). x ∷ ys) (rest (omega (arith, l))))

-- where no request has the number, none changes
pub none_changed : (k : ℕ) (g : Request → Request) (rs : List Request) → length rs ≤ position_or_len (λ r. r.number == k) rs → map (changed_at k g) rs ≡ rs
none_changed k g [] h = refl
none_changed k g (x ∷ xs) h = by (x.number == k) (none_changed k g xs) h
  where
    at : ℕ
    at = position_or_len (λ (r : Request). r.number == k) xs

    by : (b : Bool) → (length xs ≤ at → map (changed_at k g) xs ≡ xs) → length (x ∷ xs) ≤ cond (not b) (1 + at) 0 → (if b then g x else x) ∷ map (changed_at k g) xs ≡ x ∷ xs
    by true rest l = absurd (omega (arith, l))
    by false rest l = ap (λ (ys : List Request). x ∷ ys) (rest (omega (arith, l)))

-- what the change of one request by g leaves, which is seen afterwards
pub record Changed (floors : List Floor) (rs : List Request) (k : ℕ) (g : Request → Request) (seen : Request) (rs' : List Request) (lines' : List FloorLine) : Type 0 where
  pub next : rs' ≡ map (changed_at k g) rs
  pub lines : AreLines floors rs' lines'
  pub before : Request
  pub found : request_at rs k ≡ Some before
  pub is_seen : seen ≡ g before

pub changed_here : (floors : List Floor) (rs : List Request) (lines lines' : List FloorLine) (k place : ℕ) (g : Request → Request) (first before new seen : Request) (x y : Rank) →
    is_ascending rs ≡ true → AreLines floors rs lines → ((r : Request) (id : ℕ) → names (g r) id ≡ names r id) → place ≡ position_or_len (λ r. r.number == k) rs → place < length rs →
    first ≡ get_or rs place first → before ≡ get_or rs place before → new ≡ g before → seen ≡ get_or (set rs place new) place seen → x ≡ rank_of floors first → y ≡ rank_of floors seen →
    lines' ≡ map (moved seen x y) lines → Changed floors rs k g seen (set rs place new) lines'
changed_here floors rs lines lines' k place g first before new seen x y up h same is within is_first is_before is_new is_seen is_x is_y is_lines =
    record {
      next = next;
      lines = subst (λ (rs : List Request). AreLines floors rs lines') (sym next)
          (subst (AreLines floors (map (changed_at k g) rs)) (sym (is_lines ∙ ap (λ (f : FloorLine → FloorLine). map f lines) by_parts))
          (AreLines-changed floors rs k g before lines up found (same before) h));
      before = before;
      found = found;
      is_seen = seens;
    }
  where
    next : set rs place new ≡ map (changed_at k g) rs
    next =
        ap (set rs place) (is_new ∙ ap g is_before)
        ∙ subst (λ n. set rs n (g (get_or rs n before)) ≡ map (changed_at k g) rs) (sym is) (set-place k g rs before up (omega (arith, is, within)))

    found : request_at rs k ≡ Some before
    found =
        find_at (λ (r : Request). r.number == k) rs
        ∙ slice_get-get_or rs (position_or_len (λ (r : Request). r.number == k) rs) before (omega (arith, is, within))
        ∙ ap (λ (r : Request). Some r) (sym (is_before ∙ ap (λ n. get_or rs n before) is))

    firsts : first ≡ before
    firsts = is_first ∙ get_or_default rs place first before within ∙ sym is_before

    seens : seen ≡ g before
    seens = is_seen ∙ get_or-set_same rs place new seen within ∙ is_new

    by_parts : moved seen x y ≡ moved (g before) (rank_of floors before) (rank_of floors (g before))
    by_parts =
        let whole : Request → Request → FloorLine → FloorLine = λ s f. moved s (rank_of floors f) (rank_of floors s) in
        ap (λ (x : Rank). moved seen x y) is_x ∙ ap (moved seen (rank_of floors first)) is_y ∙ ap (λ (s : Request). whole s first) seens ∙ ap (whole (g before)) firsts

-- granting one more number
pub granted_more : (ns : List ℕ) (n : ℕ) (rs : List Request) →
    map (λ r. granted_if (r.number == n) r) (map (λ r. granted_if (list_any (λ m. m == r.number) ns) r) rs) ≡ map (λ r. granted_if (list_any (λ m. m == r.number) (ns ++ n ∷ [])) r) rs
granted_more ns n [] = refl
granted_more ns n (r ∷ rs) = both (here r) (granted_more ns n rs)
  where
    both : {a b : Request} {as' bs : List Request} → a ≡ b → as' ≡ bs → (a ∷ as') ≡ (b ∷ bs)
    both e f = cc

    swapped : (a b : ℕ) → (a == b) ≡ (b == a)
    swapped a b = grind (arith, nat_tests)

    more : (k : ℕ) (ms : List ℕ) → list_any (λ m. m == k) (ms ++ n ∷ []) ≡ (list_any (λ m. m == k) ms || k == n)
    more k [] = by (n == k) (k == n) (swapped n k)
      where
        by : (a b : Bool) → a ≡ b → (a || false) ≡ (false || b)
        by true b e = e
        by false b e = e
    more k (m ∷ ms) = by (m == k) (more k ms)
      where
        by : (a : Bool) → list_any (λ m. m == k) (ms ++ n ∷ []) ≡ (list_any (λ m. m == k) ms || k == n) → (a || list_any (λ m. m == k) (ms ++ n ∷ [])) ≡ ((a || list_any (λ m. m == k) ms) || k == n)
        by true e = refl
        by false e = e

    number : (b : Bool) (r : Request) → (granted_if b r).number ≡ r.number
    number true r = refl
    number false r = refl

    twice : (a b : Bool) (r : Request) → granted_if b (granted_if a r) ≡ granted_if (a || b) r
    twice true true r = refl
    twice true false r = refl
    twice false b r = refl

    here : (r : Request) → granted_if ((granted_if (list_any (λ m. m == r.number) ns) r).number == n) (granted_if (list_any (λ m. m == r.number) ns) r) ≡ granted_if (list_any (λ m. m == r.number) (ns ++ n ∷ [])) r
    here r =
        ap (λ k. granted_if (k == n) (granted_if (list_any (λ m. m == r.number) ns) r)) (number (list_any (λ m. m == r.number) ns) r)
        ∙ twice (list_any (λ m. m == r.number) ns) (r.number == n) r
        ∙ ap (λ b. granted_if b r) (sym (more r.number ns))

-- what the line of a floor says of the position of one that waits
pub record IsPlaced (floors : List Floor) (rs : List Request) (r : Request) (floor : ℕ) (l : FloorLine) : Type 0 where
  pub held : count_by (λ k. k.is_granted) l.ranks ≡ holders rs floor
  pub placed : place_in (rank_of floors r) l.ranks ≡ holders rs floor + ahead floors rs r floor

pub is_placed : (floors : List Floor) (rs : List Request) (lines : List FloorLine) (r : Request) (floor : ℕ) (l : FloorLine) → AreLines floors rs lines → find (λ l. l.floor == floor) lines ≡ Some l → waits r ≡ true →
    IsPlaced floors rs r floor l
is_placed floors rs lines r floor l h e w =
    let found : IsLine floors rs l × (l.floor ≡ floor) = found_line floor (IsLine floors rs) lines l h.each e in
    record {
      held = holders-line floors rs l found.0 ∙ ap (holders rs) found.1;
      placed = place-line floors rs l r found.0 w ∙ ap (λ id. holders rs id + ahead floors rs r id) found.1;
    }

pub holders_found : (floors : List Floor) (rs : List Request) (lines : List FloorLine) (floor : ℕ) (l : FloorLine) → AreLines floors rs lines → find (λ l. l.floor == floor) lines ≡ Some l →
    count_by (λ k. k.is_granted) l.ranks ≡ holders rs floor
holders_found floors rs lines floor l h e =
    let found : IsLine floors rs l × (l.floor ≡ floor) = found_line floor (IsLine floors rs) lines l h.each e in
    holders-line floors rs l found.0 ∙ ap (holders rs) found.1

pub granted_none : (rs : List Request) → map (λ r. granted_if false r) rs ≡ rs
granted_none [] = refl
granted_none (r ∷ rs) = ap (λ (ys : List Request). r ∷ ys) (granted_none rs)
