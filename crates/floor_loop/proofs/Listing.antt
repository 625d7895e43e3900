-- The lines through each change of the connections and of the time.
use Rattle.std.proofs.Common.{◌≡◌, ◌≢◌, ◌⊎◌, inl, inr, ℕ, ◌+◌, ◌≤◌, ◌<◌, Bool, true, false, cond, List, [], ◌∷◌, ◌++◌, length, drop, refl, sym, ◌∙◌, ap, subst, arith, length-append, Some, None}
use Rattle.std.specs.Prelude.{Option, IfNone, IfSome, IsSome, MatchOption, is_none, nat_eq, position}
use Rattle.std.proofs.lemmas.Map.Entries.{length-keys_of}
use Rattle.std.proofs.lemmas.List.Quantifiers.{position-Some}
use Rattle.std.specs.List.{swap_remove}
use Rattle.std.specs.Map.{keys_of, lookup}
use Rattle.indexmap.specs.IndexMap.{insert_entry, swap_remove_entry}
use Rattle.std.specs.Option.{option_map, option_map_or}
use Rattle.std.proofs.lemmas.Bool.Decides.{eqb_tells}
use Rattle.std.proofs.lemmas.List.Sums.{sum_by-cons, sum_by-swap_remove}
use Rattle.std.proofs.lemmas.Option.{none-some}
use Rattle.floor_loop.specs.declared.line.Entry.{Entry}
use Rattle.floor_loop.specs.declared.outgoing.Mark.{Mark}
use Rattle.floor_loop.specs.declared.outgoing.Mark.TheVariants.{Ready, Ends, Fails}
use Rattle.floor_loop.specs.Away.{Away}
use Rattle.floor_loop.specs.Loop.{Attended, Outgoing, outgoing_in}
use Rattle.floor_loop.specs.steps.Changed.{changed, given, mark_of, marked, or_time, unended}
use Rattle.floor_loop.specs.steps.Listed.{AscendFrom, HasMore, HasRoom, IsListed, Line, Stands, Within, is_time, places, wanted}
use Rattle.floor_loop.proofs.Altering.{changed-none, look-here, look-other, sum-changed}
use Rattle.floor_loop.proofs.Stepping.{some-out}

some_time : (a b : ℕ) → ◌≡◌ {A = Option ℕ} (Some a) (Some b) → a ≡ b
some_time a b e = cc

not_true : false ≡ true → ⊥
not_true e = cc

none_time : (a : ℕ) → ◌≡◌ {A = Option ℕ} None (Some a) → ⊥
none_time a e = cc

-- who stands in a line

stands-left : (es fs : List Entry) (k t : ℕ) → Stands es k t → Stands (es ++ fs) k t
stands-left [] fs k t s = absurd s
stands-left (e ∷ es) fs k t (inl s) = inl s
stands-left (e ∷ es) fs k t (inr s) = inr (stands-left es fs k t s)

stands-last : (es : List Entry) (e : Entry) → Stands (es ++ e ∷ []) e.number e.time
stands-last [] e = inl (refl, refl)
stands-last (f ∷ es) e = inr (stands-last es e)

ascend-from : (j k : ℕ) (es : List Entry) → k ≤ j → AscendFrom j es → AscendFrom k es
ascend-from j k [] le a = tt
ascend-from j k (e ∷ es) le a = let first : j ≤ e.time = a.0 in (omega arith, a.1)

ascend-push : (k last : ℕ) (es : List Entry) (e : Entry) → AscendFrom k es → Within last es → last ≤ e.time → k ≤ e.time → AscendFrom k (es ++ e ∷ [])
ascend-push k last [] e a w le from = (from, tt)
ascend-push k last (f ∷ es) e a w le from = let first : f.time ≤ last = w.0 in (a.0, ascend-push f.time last es e a.1 w.1 le (omega arith))

within-later : (last next : ℕ) (es : List Entry) → last ≤ next → Within last es → Within next es
within-later last next [] le w = tt
within-later last next (e ∷ es) le w = let first : e.time ≤ last = w.0 in (omega arith, within-later last next es le w.1)

within-push : (last : ℕ) (es : List Entry) (e : Entry) → Within last es → e.time ≤ last → Within last (es ++ e ∷ [])
within-push last [] e w le = (le, tt)
within-push last (f ∷ es) e w le = (w.0, within-push last es e w.1 le)

least : (k : ℕ) (es : List Entry) (n t : ℕ) → AscendFrom k es → Stands es n t → k ≤ t
least k [] n t a s = absurd s
least k (e ∷ es) n t a (inl s) = let first : k ≤ e.time = a.0 in let time : e.time ≡ t = s.1 in omega arith
least k (e ∷ es) n t a (inr s) = let first : k ≤ e.time = a.0 in let rest : e.time ≤ t = least e.time es n t a.1 s in omega arith

-- the first of a line, and the others

module _ (line : Line) (entry : Entry) (first : line.entries ≡ entry ∷ drop 1 line.entries) where
  pub first-stands : (n t : ℕ) → Stands line.entries n t → ((entry.number ≡ n) × (entry.time ≡ t)) ⊎ Stands (drop 1 line.entries) n t
  first-stands n t s = subst (λ (es : List Entry). Stands es n t) first s

  pub first-ascends : AscendFrom 0 line.entries → AscendFrom entry.time (drop 1 line.entries)
  first-ascends a = (subst (AscendFrom 0) first a).1

  pub first-within : (last : ℕ) → Within last line.entries → (entry.time ≤ last) × Within last (drop 1 line.entries)
  first-within last w = subst (Within last) first w

  pub first-least : (n t : ℕ) → AscendFrom 0 line.entries → Stands line.entries n t → entry.time ≤ t
  first-least n t a s = by (first-stands n t s)
    where
      by : ((entry.number ≡ n) × (entry.time ≡ t)) ⊎ Stands (drop 1 line.entries) n t → entry.time ≤ t
      by (inl u) = let time : entry.time ≡ t = u.1 in omega arith
      by (inr u) = least entry.time (drop 1 line.entries) n t (first-ascends a) u

  first-length : length line.entries ≡ length (drop 1 line.entries) + 1
  first-length = let e = ap length first in omega (arith, e)

-- a mark that is set, and the others
pub mark-set : (mark : Mark) (time : ℕ) (o : Outgoing) → mark_of mark o ≡ None → mark_of mark (marked mark time o) ≡ Some time
mark-set Ready time o e = ap (λ (z : Option ℕ). or_time z time) e
mark-set Ends time o e = ap (λ (z : Option ℕ). or_time z time) e
mark-set Fails time o e = ap (λ (z : Option ℕ). or_time z time) e

-- what was changed, found by its number
found-changed : (f : Outgoing → Outgoing) (number : ℕ) (es : List (ℕ × Outgoing)) (k : ℕ) (p : Outgoing) → lookup (nat_eq k) (changed f number es) ≡ Some p →
    ((number ≡ k) × ((o : Outgoing) × (lookup (nat_eq number) es ≡ Some o) × (p ≡ f o))) ⊎ ((number ≢ k) × (lookup (nat_eq k) es ≡ Some p))
found-changed f number es k p is = by (eqb_tells number k)
  where
    mapped : (x : Option Outgoing) → lookup (nat_eq number) es ≡ x → option_map f x ≡ Some p → (o : Outgoing) × (lookup (nat_eq number) es ≡ Some o) × (p ≡ f o)
    mapped None e h = absurd (none-some p h)
    mapped (Some o) e h = (o, e, sym (some-out (f o) p h))

    by : (((nat_eq number k ≡ true) × (number ≡ k)) ⊎ ((nat_eq number k ≡ false) × (number ≢ k))) →
        ((number ≡ k) × ((o : Outgoing) × (lookup (nat_eq number) es ≡ Some o) × (p ≡ f o))) ⊎ ((number ≢ k) × (lookup (nat_eq k) es ≡ Some p))
    by (inl t) = inl (t.1, mapped (lookup (nat_eq number) es) refl (sym (look-here f number es) ∙ ap (λ (i : ℕ). lookup (nat_eq i) (changed f number es)) t.1 ∙ is))
    by (inr t) = inr (t.1, sym (look-other f number k es t.0) ∙ is)

places-changed : (mark : Mark) (f : Outgoing → Outgoing) (number : ℕ) (es : List (ℕ × Outgoing)) (o : Outgoing) → lookup (nat_eq number) es ≡ Some o →
    places mark (changed f number es) + wanted (mark_of mark o) ≡ places mark es + wanted (mark_of mark (f o))
places-changed mark f number es o is = sum-changed (λ e. wanted (mark_of mark e.1)) f number es o (λ k p. refl) is

places-same : (mark : Mark) (f : Outgoing → Outgoing) (number : ℕ) (es : List (ℕ × Outgoing)) → ((o : Outgoing) → lookup (nat_eq number) es ≡ Some o → mark_of mark (f o) ≡ mark_of mark o) → places mark (changed f number es) ≡ places mark es
places-same mark f number es same = by (lookup (nat_eq number) es) refl
  where
    by : (x : Option Outgoing) → lookup (nat_eq number) es ≡ x → places mark (changed f number es) ≡ places mark es
    by None e = ap (places mark) (changed-none f number es e)
    by (Some o) e =
        let sums = places-changed mark f number es o e in
        let equal : wanted (mark_of mark (f o)) ≡ wanted (mark_of mark o) = ap wanted (same o e) in
        omega (arith, sums, equal)

-- there is room for a connection that hasn't the mark
pub room-for : (mark : Mark) (number : ℕ) (es : List (ℕ × Outgoing)) (last : ℕ) (line : Line) (o : Outgoing) → lookup (nat_eq number) es ≡ Some o → mark_of mark o ≡ None → IsListed mark es last line → length line.entries < line.room
room-for mark number es last line o is none l =
    let sums = places-changed mark (marked mark 0) number es o is in
    let before : wanted (mark_of mark o) ≡ 1 = ap wanted none in
    let after : wanted (mark_of mark (marked mark 0 o)) ≡ 0 = ap wanted (mark-set mark 0 o none) in
    omega (arith, sums, before, after, l.room)

-- a connection is given the mark, and stands behind the others
pub listed-marked : (mark : Mark) (time number : ℕ) (es : List (ℕ × Outgoing)) (last next : ℕ) (line : Line) (o : Outgoing) → lookup (nat_eq number) es ≡ Some o → mark_of mark o ≡ None → last ≤ time → time ≤ next → IsListed mark es last line →
    IsListed mark (changed (marked mark time) number es) next (record line { entries = line.entries ++ record { number = number; time = time } ∷ [] })
listed-marked mark time number es last next line o is none le le' l =
    let entry : Entry = record { number = number; time = time } in
    record {
      found = λ k t p is_p has. found k t p has (found-changed (marked mark time) number es k p is_p);
      room =
          let sums = places-changed mark (marked mark time) number es o is in
          let before : wanted (mark_of mark o) ≡ 1 = ap wanted none in
          let after : wanted (mark_of mark (marked mark time o)) ≡ 0 = ap wanted (mark-set mark time o none) in
          omega (arith, sums, before, after, l.room, length-append line.entries (entry ∷ []));
      ascending = ascend-push 0 last line.entries entry l.ascending l.within le (omega arith);
      within = within-push next line.entries entry (within-later last next line.entries (omega arith) l.within) le';
    }
  where
    found : (k t : ℕ) (p : Outgoing) → mark_of mark p ≡ Some t → (((number ≡ k) × ((q : Outgoing) × (lookup (nat_eq number) es ≡ Some q) × (p ≡ marked mark time q))) ⊎ ((number ≢ k) × (lookup (nat_eq k) es ≡ Some p))) →
        Stands (line.entries ++ record { number = number; time = time } ∷ []) k t
    found k t p has (inr u) = stands-left line.entries (record { number = number; time = time } ∷ []) k t (l.found k t p u.1 has)
    found k t p has (inl u) =
        let q_is : u.1.0 ≡ o = some-out u.1.0 o (sym u.1.1 ∙ is) in
        let time_is : time ≡ t = some_time time t (sym (mark-set mark time o none) ∙ ap (λ (z : Outgoing). mark_of mark (marked mark time z)) (sym q_is) ∙ ap (mark_of mark) (sym u.1.2) ∙ has) in
        subst (λ (i : ℕ). Stands (line.entries ++ record { number = number; time = time } ∷ []) i t) u.0
        (subst (λ (i : ℕ). Stands (line.entries ++ record { number = number; time = time } ∷ []) number i) time_is (stands-last line.entries (record { number = number; time = time })))

-- a change that leaves the mark, as time goes on
pub listed-kept : (mark : Mark) (f : Outgoing → Outgoing) (number : ℕ) (es : List (ℕ × Outgoing)) (last : ℕ) (line : Line) → ((o : Outgoing) → lookup (nat_eq number) es ≡ Some o → mark_of mark (f o) ≡ mark_of mark o) → IsListed mark es last line → IsListed mark (changed f number es) last line
listed-kept mark f number es last line same l =
    record {
      found = λ k t p is_p has. found k t p has (found-changed f number es k p is_p);
      room = let sums = places-same mark f number es same in omega (arith, sums, l.room);
      ascending = l.ascending;
      within = l.within;
    }
  where
    found : (k t : ℕ) (p : Outgoing) → mark_of mark p ≡ Some t → (((number ≡ k) × ((q : Outgoing) × (lookup (nat_eq number) es ≡ Some q) × (p ≡ f q))) ⊎ ((number ≢ k) × (lookup (nat_eq k) es ≡ Some p))) → Stands line.entries k t
    found k t p has (inr u) = l.found k t p u.1 has
    found k t p has (inl u) = subst (λ (i : ℕ). Stands line.entries i t) u.0 (l.found number t u.1.0 u.1.1 (sym (same u.1.0 u.1.1) ∙ ap (mark_of mark) (sym u.1.2) ∙ has))

pub listed-later : (mark : Mark) (es : List (ℕ × Outgoing)) (last next : ℕ) (line : Line) → last ≤ next → IsListed mark es last line → IsListed mark es next line
listed-later mark es last next line le l = record { found = l.found; room = l.room; ascending = l.ascending; within = within-later last next line.entries le l.within }

-- the first of the line is given
pub listed-given : (es : List (ℕ × Outgoing)) (last : ℕ) (line : Line) (entry : Entry) (o : Outgoing) → line.entries ≡ entry ∷ drop 1 line.entries → lookup (nat_eq entry.number) es ≡ Some o → o.ready ≡ Some entry.time → IsListed Ready es last line →
    IsListed Ready (changed given entry.number es) last (record line { entries = drop 1 line.entries })
listed-given es last line entry o first is has l =
    record {
      found = λ k t p is_p has_p. found k t p has_p (found-changed given entry.number es k p is_p);
      room =
          let sums = places-changed Ready given entry.number es o is in
          let before : wanted o.ready ≡ 0 = ap wanted has in
          let count = first-length line entry first in
          omega (arith, sums, before, count, l.room);
      ascending = ascend-from entry.time 0 (drop 1 line.entries) (omega arith) (first-ascends line entry first l.ascending);
      within = (first-within line entry first last l.within).1;
    }
  where
    found : (k t : ℕ) (p : Outgoing) → p.ready ≡ Some t → (((entry.number ≡ k) × ((q : Outgoing) × (lookup (nat_eq entry.number) es ≡ Some q) × (p ≡ given q))) ⊎ ((entry.number ≢ k) × (lookup (nat_eq k) es ≡ Some p))) → Stands (drop 1 line.entries) k t
    found k t p has_p (inl u) = absurd (none_time t (ap (λ (z : Outgoing). z.ready) (sym u.1.2) ∙ has_p))
    found k t p has_p (inr u) = by (first-stands line entry first k t (l.found k t p u.1 has_p))
      where
        by : ((entry.number ≡ k) × (entry.time ≡ t)) ⊎ Stands (drop 1 line.entries) k t → Stands (drop 1 line.entries) k t
        by (inl v) = absurd (u.0 v.0)
        by (inr v) = v

-- the first of the line hasn't the mark with its time, and goes
pub listed-stale : (mark : Mark) (es : List (ℕ × Outgoing)) (last : ℕ) (line : Line) (entry : Entry) → line.entries ≡ entry ∷ drop 1 line.entries → ((o : Outgoing) → lookup (nat_eq entry.number) es ≡ Some o → mark_of mark o ≢ Some entry.time) →
    IsListed mark es last line → IsListed mark es last (record line { entries = drop 1 line.entries })
listed-stale mark es last line entry first stale l =
    record {
      found = λ k t p is_p has. found k t p is_p has (first-stands line entry first k t (l.found k t p is_p has));
      room = let count = first-length line entry first in omega (arith, count, l.room);
      ascending = ascend-from entry.time 0 (drop 1 line.entries) (omega arith) (first-ascends line entry first l.ascending);
      within = (first-within line entry first last l.within).1;
    }
  where
    found : (k t : ℕ) (p : Outgoing) → lookup (nat_eq k) es ≡ Some p → mark_of mark p ≡ Some t → ((entry.number ≡ k) × (entry.time ≡ t)) ⊎ Stands (drop 1 line.entries) k t → Stands (drop 1 line.entries) k t
    found k t p is_p has (inr v) = v
    found k t p is_p has (inl v) = absurd (stale p (ap (λ (i : ℕ). lookup (nat_eq i) es) v.0 ∙ is_p) (has ∙ ap Some (sym v.1)))

-- a connection comes that has no mark, for whom there is room
pub listed-added : (mark : Mark) (es fs : List (ℕ × Outgoing)) (number last : ℕ) (o : Outgoing) (line more : Line) → mark_of mark o ≡ None → lookup (nat_eq number) fs ≡ Some o → ((k : ℕ) → nat_eq number k ≡ false → lookup (nat_eq k) fs ≡ lookup (nat_eq k) es) →
    places mark fs ≤ places mark es + 1 → more.entries ≡ line.entries → length more.entries + places mark es + 1 ≤ more.room → IsListed mark es last line → IsListed mark fs last more
listed-added mark es fs number last o line more none here others count same spare l =
    record {
      found = λ k t p is_p has. subst (λ (z : List Entry). Stands z k t) (sym same) (found k t p is_p has (eqb_tells number k));
      room = omega (arith, count, spare);
      ascending = subst (AscendFrom 0) (sym same) l.ascending;
      within = subst (Within last) (sym same) l.within;
    }
  where
    found : (k t : ℕ) (p : Outgoing) → lookup (nat_eq k) fs ≡ Some p → mark_of mark p ≡ Some t → (((nat_eq number k ≡ true) × (number ≡ k)) ⊎ ((nat_eq number k ≡ false) × (number ≢ k))) → Stands line.entries k t
    found k t p is_p has (inr u) = l.found k t p (sym (others k u.0) ∙ is_p) has
    found k t p is_p has (inl u) =
        let same : o ≡ p = some-out o p (sym here ∙ ap (λ (i : ℕ). lookup (nat_eq i) fs) u.1 ∙ is_p) in
        absurd (none_time t (sym none ∙ ap (mark_of mark) same ∙ has))

-- the same stand in a line with more room
pub listed-more : (mark : Mark) (es : List (ℕ × Outgoing)) (last : ℕ) (line more : Line) → more.entries ≡ line.entries → line.room ≤ more.room → IsListed mark es last line → IsListed mark es last more
listed-more mark es last line more same le l =
    let count = ap length same in
    record {
      found = λ k t p is_p has. subst (λ (z : List Entry). Stands z k t) (sym same) (l.found k t p is_p has);
      room = omega (arith, count, le, l.room);
      ascending = subst (AscendFrom 0) (sym same) l.ascending;
      within = subst (Within last) (sym same) l.within;
    }

-- a connection has gone
pub listed-removed : (mark : Mark) (es fs : List (ℕ × Outgoing)) (number last : ℕ) (line : Line) → lookup (nat_eq number) fs ≡ None → ((k : ℕ) → nat_eq number k ≡ false → lookup (nat_eq k) fs ≡ lookup (nat_eq k) es) → places mark fs ≤ places mark es →
    IsListed mark es last line → IsListed mark fs last line
listed-removed mark es fs number last line gone others fewer l =
    record { found = λ k t p is_p has. found k t p is_p has (eqb_tells number k); room = omega (arith, fewer, l.room); ascending = l.ascending; within = l.within }
  where
    found : (k t : ℕ) (p : Outgoing) → lookup (nat_eq k) fs ≡ Some p → mark_of mark p ≡ Some t → (((nat_eq number k ≡ true) × (number ≡ k)) ⊎ ((nat_eq number k ≡ false) × (number ≢ k))) → Stands line.entries k t
    found k t p is_p has (inr u) = l.found k t p (sym (others k u.0) ∙ is_p) has
    found k t p is_p has (inl u) = absurd (none-some p (sym gone ∙ ap (λ (i : ℕ). lookup (nat_eq i) fs) u.1 ∙ is_p))

-- where nobody stands nobody has the mark
pub nobody-stands : (mark : Mark) (es : List (ℕ × Outgoing)) (last : ℕ) (line : Line) → line.entries ≡ [] → IsListed mark es last line → (number : ℕ) (o : Outgoing) → lookup (nat_eq number) es ≡ Some o → mark_of mark o ≡ None
nobody-stands mark es last line none l number o is = by (mark_of mark o) refl
  where
    by : (z : Option ℕ) → mark_of mark o ≡ z → mark_of mark o ≡ None
    by None e = e
    by (Some t) e = absurd (subst (λ (fs : List Entry). Stands fs number t) none (l.found number t o is e))

-- nobody has the mark for longer than who stands first
pub first-of-all : (mark : Mark) (es : List (ℕ × Outgoing)) (last : ℕ) (line : Line) (entry : Entry) → line.entries ≡ entry ∷ drop 1 line.entries → IsListed mark es last line →
    (entry.time ≤ last) × ((number time : ℕ) (o : Outgoing) → lookup (nat_eq number) es ≡ Some o → mark_of mark o ≡ Some time → entry.time ≤ time)
first-of-all mark es last line entry first l =
    ((first-within line entry first last l.within).0, λ number time o is has. first-least line entry first number time l.ascending (l.found number time o is has))

-- whether a connection has the mark with this time

pub stands-true : (mark : Mark) (time : ℕ) (z : Option Outgoing) → option_map_or (λ o. is_time time (mark_of mark o)) z false ≡ true → (o : Outgoing) × (z ≡ Some o) × (mark_of mark o ≡ Some time)
stands-true mark time None e = absurd (not_true e)
stands-true mark time (Some o) e = (o, refl, by (mark_of mark o) e)
  where
    by : (y : Option ℕ) → is_time time y ≡ true → y ≡ Some time
    by None e = absurd (not_true e)
    by (Some other) e = same (eqb_tells other time)
      where
        same : (((nat_eq other time ≡ true) × (other ≡ time)) ⊎ ((nat_eq other time ≡ false) × (other ≢ time))) → ◌≡◌ {A = Option ℕ} (Some other) (Some time)
        same (inl t) = ap Some t.1
        same (inr t) = absurd (not_true (sym t.0 ∙ e))

pub stands-false : (mark : Mark) (time : ℕ) (z : Option Outgoing) → option_map_or (λ o. is_time time (mark_of mark o)) z false ≡ false → (o : Outgoing) → z ≡ Some o → mark_of mark o ≢ Some time
stands-false mark time z e o is has = not_true (sym e ∙ ap (λ (y : Option Outgoing). option_map_or (λ o. is_time time (mark_of mark o)) y false) is ∙ ap (is_time time) has ∙ itself (eqb_tells time time))
  where
    itself : (((nat_eq time time ≡ true) × (time ≡ time)) ⊎ ((nat_eq time time ≡ false) × (time ≢ time))) → nat_eq time time ≡ true
    itself (inl t) = t.0
    itself (inr t) = absurd (t.1 refl)

-- a mark that is there stays, and so does each other

marked-again : (z : Option ℕ) (time : ℕ) → is_none z ≡ false → or_time z time ≡ z
marked-again None time e = absurd (not_true (sym e))
marked-again (Some t) time e = refl

marked-stays : (mark other : Mark) (time : ℕ) (o : Outgoing) → is_none (mark_of mark o) ≡ false → mark_of other (marked mark time o) ≡ mark_of other o
marked-stays Ready Ready time o e = marked-again o.ready time e
marked-stays Ready Ends time o e = refl
marked-stays Ready Fails time o e = refl
marked-stays Ends Ready time o e = refl
marked-stays Ends Ends time o e = marked-again o.ends time e
marked-stays Ends Fails time o e = refl
marked-stays Fails Ready time o e = refl
marked-stays Fails Ends time o e = refl
marked-stays Fails Fails time o e = marked-again o.fails time e

-- whether a connection is there that hasn't the mark

pub lacks-true : (mark : Mark) (z : Option Outgoing) → option_map_or (λ o. is_none (mark_of mark o)) z false ≡ true → (o : Outgoing) × (z ≡ Some o) × (mark_of mark o ≡ None)
lacks-true mark None e = absurd (not_true e)
lacks-true mark (Some o) e = (o, refl, by (mark_of mark o) e)
  where
    by : (y : Option ℕ) → is_none y ≡ true → y ≡ None
    by None e = refl
    by (Some t) e = absurd (not_true e)

lacks-false : (mark : Mark) (z : Option Outgoing) (o : Outgoing) → option_map_or (λ o. is_none (mark_of mark o)) z false ≡ false → z ≡ Some o → is_none (mark_of mark o) ≡ false
lacks-false mark z o e is = ap (λ (y : Option Outgoing). option_map_or (λ o. is_none (mark_of mark o)) y false) (sym is) ∙ e

-- nobody was marked
pub listed-unmarked : (mark other : Mark) (time number : ℕ) (es : List (ℕ × Outgoing)) (last : ℕ) (line : Line) → option_map_or (λ o. is_none (mark_of mark o)) (lookup (nat_eq number) es) false ≡ false → IsListed other es last line →
    IsListed other (changed (marked mark time) number es) last line
listed-unmarked mark other time number es last line e l = listed-kept other (marked mark time) number es last line (λ o is. marked-stays mark other time o (lacks-false mark (lookup (nat_eq number) es) o e is)) l

-- somebody was, with another mark
pub listed-beside : (other : Mark) (f : Outgoing → Outgoing) (number : ℕ) (es : List (ℕ × Outgoing)) (last : ℕ) (line : Line) → ((o : Outgoing) → mark_of other (f o) ≡ mark_of other o) → IsListed other es last line → IsListed other (changed f number es) last line
listed-beside other f number es last line same l = listed-kept other f number es last line (λ o is. same o) l

-- who has the mark has it since before
pub has-within : (mark : Mark) (es : List (ℕ × Outgoing)) (last : ℕ) (line : Line) (number time : ℕ) (o : Outgoing) → IsListed mark es last line → lookup (nat_eq number) es ≡ Some o → mark_of mark o ≡ Some time → time ≤ last
has-within mark es last line number time o l is has = stood last line.entries l.within (l.found number time o is has)
  where
    stood : (last : ℕ) (fs : List Entry) → Within last fs → Stands fs number time → time ≤ last
    stood last [] w s = absurd s
    stood last (e ∷ fs) w (inl s) = let first : e.time ≤ last = w.0 in let same : e.time ≡ time = s.1 in omega arith
    stood last (e ∷ fs) w (inr s) = stood last fs w.1 s

-- with the last connection in the place of the one that has gone, no more places are wanted
pub places-removed : (mark : Mark) (test : ℕ → Bool) (es : List (ℕ × Outgoing)) → places mark (swap_remove_entry test es) ≤ places mark es
places-removed mark test [] = omega arith
places-removed mark test (e ∷ es) = by (position test (keys_of (e ∷ es))) refl
  where
    by : (z : Option ℕ) → position test (keys_of (e ∷ es)) ≡ z → places mark (option_map_or (λ i. swap_remove (e ∷ es) i e) z (e ∷ es)) ≤ places mark (e ∷ es)
    by None h = omega arith
    by (Some i) h =
        let within = (position-Some test (keys_of (e ∷ es)) i 0 h).0 in
        let count = length-keys_of (e ∷ es) in
        let sums = sum_by-swap_remove (λ (z : ℕ × Outgoing). wanted (mark_of mark z.1)) (e ∷ es) i e (omega (arith, within, count)) in
        omega (arith, sums)

wanted-few : (mark : Mark) (o : Outgoing) → wanted (mark_of mark o) ≤ 1
wanted-few mark o = by (mark_of mark o)
  where
    by : (z : Option ℕ) → wanted z ≤ 1
    by None = omega arith
    by (Some t) = omega arith

-- and never more than there are connections
pub places-few : (mark : Mark) (es : List (ℕ × Outgoing)) → places mark es ≤ length es
places-few mark [] = omega arith
places-few mark (e ∷ es) =
    let rest = places-few mark es in
    let one = wanted-few mark e.1 in
    omega (arith, rest, one, sum_by-cons (λ (z : ℕ × Outgoing). wanted (mark_of mark z.1)) e es)

-- one connection more wants one place more, at most
pub places-inserted : (mark : Mark) (number : ℕ) (o : Outgoing) (es : List (ℕ × Outgoing)) → places mark (insert_entry nat_eq es number o) ≤ places mark es + 1
places-inserted mark number o [] =
    let one = wanted-few mark o in
    omega (arith, one, sum_by-cons (λ (z : ℕ × Outgoing). wanted (mark_of mark z.1)) (number, o) [])
places-inserted mark number o (e ∷ es) = by (nat_eq number e.0) (places-inserted mark number o es)
  where
    by : (b : Bool) → places mark (insert_entry nat_eq es number o) ≤ places mark es + 1 → places mark (cond b ((e.0, o) ∷ es) (e ∷ insert_entry nat_eq es number o)) ≤ places mark (e ∷ es) + 1
    by true rec =
        let one = wanted-few mark o in
        omega (arith, one, sum_by-cons (λ (z : ℕ × Outgoing). wanted (mark_of mark z.1)) (e.0, o) es, sum_by-cons (λ (z : ℕ × Outgoing). wanted (mark_of mark z.1)) e es)
    by false rec = omega (arith, rec, sum_by-cons (λ (z : ℕ × Outgoing). wanted (mark_of mark z.1)) e (insert_entry nat_eq es number o), sum_by-cons (λ (z : ℕ × Outgoing). wanted (mark_of mark z.1)) e es)

-- somebody was given, or nobody
pub listed-maybe : (other : Mark) (r : Option ℕ) (es fs : List (ℕ × Outgoing)) (last : ℕ) (line : Line) → fs ≡ option_map_or (λ number. changed given number es) r es → ((o : Outgoing) → mark_of other (given o) ≡ mark_of other o) → IsListed other es last line → IsListed other fs last line
listed-maybe other None es fs last line next same l = subst (λ (z : List (ℕ × Outgoing)). IsListed other z last line) (sym next) l
listed-maybe other (Some number) es fs last line next same l = subst (λ (z : List (ℕ × Outgoing)). IsListed other z last line) (sym next) (listed-beside other given number es last line same l)

pub next-is : (r : Option ℕ) (es fs : List (ℕ × Outgoing)) (time : ℕ) (away : Away) (old : Attended) → fs ≡ option_map_or (λ number. changed given number es) r es → record { outgoing = es; time = time; away = away } ≡ old →
    MatchOption r (record { outgoing = fs; time = time; away = away } ≡ old) (λ number. record { outgoing = fs; time = time; away = away } ≡ record old { outgoing = changed given number old.outgoing })
next-is None es fs time away old next view = ap (λ (z : List (ℕ × Outgoing)). record { outgoing = z; time = time; away = away }) next ∙ view
next-is (Some number) es fs time away old next view = ap (λ (z : List (ℕ × Outgoing)). record { outgoing = z; time = time; away = away }) next ∙ ap (λ (z : Attended). record z { outgoing = changed given number z.outgoing }) view

ready-some : (o : Outgoing) (time : ℕ) → o.ready ≡ Some time → IsSome o.ready
ready-some o time e = subst IsSome (sym e) refl

pub found-is : (r : Option ℕ) (es : List (ℕ × Outgoing)) (old : Attended) → es ≡ old.outgoing → IfSome r (λ number. (o : Outgoing) × (lookup (nat_eq number) es ≡ Some o) × (time : ℕ) × (o.ready ≡ Some time)) →
    IfSome r (λ number. (o : Outgoing) × (outgoing_in old number ≡ Some o) × IsSome o.ready)
found-is None es old same f = tt
found-is (Some number) es old same f = (f.0, ap (λ (z : List (ℕ × Outgoing)). lookup (nat_eq number) z) (sym same) ∙ f.1, ready-some f.0 f.2 f.3)

pub none-is : (r : Option ℕ) (es : List (ℕ × Outgoing)) (last : ℕ) (line : Line) (old : Attended) → es ≡ old.outgoing → IsListed Ready es last line →
    IfNone r ((last : ℕ) → IsListed Ready es last line → (number : ℕ) (o : Outgoing) → lookup (nat_eq number) es ≡ Some o → o.ready ≡ None) → IfNone r ((number : ℕ) (o : Outgoing) → outgoing_in old number ≡ Some o → o.ready ≡ None)
none-is (Some number) es last line old same l f = tt
none-is None es last line old same l f = λ number o is. f last l number o (ap (λ (z : List (ℕ × Outgoing)). lookup (nat_eq number) z) same ∙ is)

length-changed : (f : Outgoing → Outgoing) (number : ℕ) (es : List (ℕ × Outgoing)) → length (changed f number es) ≡ length es
length-changed f number [] = refl
length-changed f number (e ∷ es) = by (nat_eq number e.0) (length-changed f number es)
  where
    by : (b : Bool) → length (changed f number es) ≡ length es → length (cond b ((e.0, f e.1) ∷ es) (e ∷ changed f number es)) ≡ length (e ∷ es)
    by true rec = refl
    by false rec = omega (arith, rec)

-- a connection isn't to be shut down any more, where there is room for all
pub listed-ended : (mark : Mark) (number : ℕ) (es : List (ℕ × Outgoing)) (last : ℕ) (line more : Line) → ((o : Outgoing) (t : ℕ) → mark_of mark (unended o) ≡ Some t → mark_of mark o ≡ Some t) → HasMore line more → HasRoom es more → IsListed mark es last line →
    IsListed mark (changed unended number es) last more
listed-ended mark number es last line more fewer has room l =
    record {
      found = λ k t p is_p has_p. subst (λ (z : List Entry). Stands z k t) (sym has.0) (found k t p has_p (found-changed unended number es k p is_p));
      room =
          let few = places-few mark (changed unended number es) in
          let count = length-changed unended number es in
          omega (arith, few, count, room);
      ascending = subst (AscendFrom 0) (sym has.0) l.ascending;
      within = subst (Within last) (sym has.0) l.within;
    }
  where
    found : (k t : ℕ) (p : Outgoing) → mark_of mark p ≡ Some t → (((number ≡ k) × ((q : Outgoing) × (lookup (nat_eq number) es ≡ Some q) × (p ≡ unended q))) ⊎ ((number ≢ k) × (lookup (nat_eq k) es ≡ Some p))) → Stands line.entries k t
    found k t p has_p (inr u) = l.found k t p u.1 has_p
    found k t p has_p (inl u) = subst (λ (i : ℕ). Stands line.entries i t) u.0 (l.found number t u.1.0 u.1.1 (fewer u.1.0 t (ap (mark_of mark) (sym u.1.2) ∙ has_p)))
