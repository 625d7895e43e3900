-- Whose stay is over first, among all.
use Rattle.std.proofs.Common.{◌≡◌, ◌⊎◌, inl, inr, ℕ, zero, suc, ◌<◌, ◌≤◌, Bool, true, false, cond, List, [], ◌∷◌, length, refl, sym, ◌∙◌, ap, arith, Some, None}
use Rattle.std.specs.Prelude.{Option, IfNone, IfSome, nat_eq, nat_lt}
use Rattle.std.specs.Map.{lookup}
use Rattle.std.specs.Option.{option_map}
use Rattle.std.proofs.lemmas.Bool.{cases_lt}
use Rattle.std.proofs.lemmas.Bool.Decides.{nat_tests}
use Rattle.floor_loop.specs.declared.line.Entry.{Entry}
use Rattle.floor_loop.specs.declared.stay.Stay.{Stay}
use Rattle.floor_loop.specs.steps.Soonest.{entry_at, entry_of, sooner, soonest_to}

some_time : (a b : ℕ) → ◌≡◌ {A = Option ℕ} (Some a) (Some b) → a ≡ b
some_time a b e = cc

none_time : (a : ℕ) → ◌≡◌ {A = Option ℕ} None (Some a) → ⊥
none_time a e = cc

less_of : (a b : ℕ) → nat_lt a b ≡ true → a < b
less_of a b e = grind (arith, nat_tests)

not_less : (a b : ℕ) → nat_lt a b ≡ false → b ≤ a
not_less a b e = grind (arith, nat_tests)

-- what is found stands at some place
pub look-place : (es : List (ℕ × Stay)) (number until : ℕ) → option_map (λ s. s.until) (lookup (nat_eq number) es) ≡ Some until → (i : ℕ) × (f : Entry) × (entry_at es i ≡ Some f) × (f.time ≡ until) × (i < length es)
look-place [] number until e = absurd (none_time until e)
look-place (x ∷ xs) number until e = by (nat_eq number x.0) e (look-place xs number until)
  where
    by : (b : Bool) → option_map (λ s. s.until) (cond b (Some x.1) (lookup (nat_eq number) xs)) ≡ Some until →
        (option_map (λ s. s.until) (lookup (nat_eq number) xs) ≡ Some until → (i : ℕ) × (f : Entry) × (entry_at xs i ≡ Some f) × (f.time ≡ until) × (i < length xs)) →
        (i : ℕ) × (f : Entry) × (entry_at (x ∷ xs) i ≡ Some f) × (f.time ≡ until) × (i < length (x ∷ xs))
    by true h rec = (zero, entry_of x, refl, some_time x.1.until until h, omega arith)
    by false h rec = let r = rec h in let within = r.4 in (suc r.0, r.1, r.2, r.3, omega (arith, within))

-- the first of more isn't later
sooner-first : (a z : Option Entry) (e f : Entry) → a ≡ Some e → e.time ≤ f.time → (d : Entry) × (sooner a z ≡ Some d) × (d.time ≤ f.time)
sooner-first a None e f is le = (e, ap (λ (x : Option Entry). sooner x None) is, le)
sooner-first a (Some g) e f is le = by (nat_lt g.time e.time) refl
  where
    by : (b : Bool) → nat_lt g.time e.time ≡ b → (d : Entry) × (sooner a (Some g) ≡ Some d) × (d.time ≤ f.time)
    by true h = let less = less_of g.time e.time h in (g, ap (λ (x : Option Entry). sooner x (Some g)) is ∙ ap (λ (b : Bool). Some (cond b g e)) h, omega (arith, less, le))
    by false h = (e, ap (λ (x : Option Entry). sooner x (Some g)) is ∙ ap (λ (b : Bool). Some (cond b g e)) h, le)

sooner-other : (a : Option Entry) (f : Entry) → (d : Entry) × (sooner a (Some f) ≡ Some d) × (d.time ≤ f.time)
sooner-other None f = (f, refl, omega arith)
sooner-other (Some e) f = by (nat_lt f.time e.time) refl
  where
    by : (b : Bool) → nat_lt f.time e.time ≡ b → (d : Entry) × (sooner (Some e) (Some f) ≡ Some d) × (d.time ≤ f.time)
    by true h = (f, ap (λ (b : Bool). Some (cond b f e)) h, omega arith)
    by false h = (e, ap (λ (b : Bool). Some (cond b f e)) h, not_less f.time e.time h)

-- none before the place is over sooner
pub soonest-least : (es : List (ℕ × Stay)) (j i : ℕ) (f : Entry) → i < j → entry_at es i ≡ Some f → (e : Entry) × (soonest_to es j ≡ Some e) × (e.time ≤ f.time)
soonest-least es zero i f less is = absurd (omega (arith, less))
soonest-least es (suc j) i f less is = by (cases_lt i j) (λ h. soonest-least es j i f h is)
  where
    by : (i < j) ⊎ (j ≤ i) → (i < j → (e : Entry) × (soonest_to es j ≡ Some e) × (e.time ≤ f.time)) → (e : Entry) × (soonest_to es (suc j) ≡ Some e) × (e.time ≤ f.time)
    by (inl h) rec = let r = rec h in sooner-first (soonest_to es j) (entry_at es j) r.0 f r.1 r.2
    by (inr h) rec =
        let same : i ≡ j = omega (arith, h, less) in
        let here : entry_at es j ≡ Some f = ap (entry_at es) (sym same) ∙ is in
        let d = sooner-other (soonest_to es j) f in
        (d.0, ap (sooner (soonest_to es j)) here ∙ d.1, d.2)

-- the first of two is one of them
pub sooner-one : (P : Entry → Type 0) (a z : Option Entry) → IfSome a P → IfSome z P → IfSome (sooner a z) P
sooner-one P None z p q = q
sooner-one P (Some e) None p q = p
sooner-one P (Some e) (Some f) p q = by (nat_lt f.time e.time)
  where
    by : (b : Bool) → P (cond b f e)
    by true = q
    by false = p

some-entry : (d e : Entry) → ◌≡◌ {A = Option Entry} (Some d) (Some e) → d ≡ e
some-entry d e h = cc

none-entry : (e : Entry) → ◌≡◌ {A = Option Entry} None (Some e) → ⊥
none-entry e h = cc

-- so it is of all
pub first-least : (r : Option Entry) (es : List (ℕ × Stay)) (j : ℕ) → length es ≤ j → r ≡ soonest_to es j → IfSome r (λ e. (number until : ℕ) → option_map (λ s. s.until) (lookup (nat_eq number) es) ≡ Some until → e.time ≤ until)
first-least None es j all is = tt
first-least (Some e) es j all is = λ number until has.
    let p = look-place es number until has in
    let within = p.4 in
    let d = soonest-least es j p.0 p.1 (omega (arith, within, all)) p.2 in
    let same : d.0.time ≡ e.time = ap (λ (x : Entry). x.time) (some-entry d.0 e (sym d.1 ∙ sym is)) in
    let time = p.3 in
    let le = d.2 in
    omega (arith, same, time, le)

pub first-none : (r : Option Entry) (es : List (ℕ × Stay)) (j : ℕ) → length es ≤ j → r ≡ soonest_to es j → r ≡ None → (number : ℕ) → option_map (λ s. s.until) (lookup (nat_eq number) es) ≡ None
first-none r es j all is none number = by (option_map (λ s. s.until) (lookup (nat_eq number) es)) refl
  where
    by : (z : Option ℕ) → option_map (λ s. s.until) (lookup (nat_eq number) es) ≡ z → option_map (λ s. s.until) (lookup (nat_eq number) es) ≡ None
    by None h = h
    by (Some until) h =
        let p = look-place es number until h in
        let within = p.4 in
        let d = soonest-least es j p.0 p.1 (omega (arith, within, all)) p.2 in
        absurd (none-entry d.0 (sym none ∙ is ∙ d.1))

pub if-none-first : (r : Option Entry) (es : List (ℕ × Stay)) (j : ℕ) → length es ≤ j → r ≡ soonest_to es j → IfNone r ((number : ℕ) → option_map (λ s. s.until) (lookup (nat_eq number) es) ≡ None)
if-none-first None es j all is = first-none None es j all is refl
if-none-first (Some e) es j all is = tt
