-- Until when connections are left alone.
use Rattle.std.proofs.Common.{◌≡◌, ◌⊎◌, inl, inr, ℕ, ◌≤◌, ◌<◌, refl, sym, ◌∙◌, ap, arith, Some, None}
use Rattle.std.specs.Prelude.{Option, IfNone, IfSome, min}
use Rattle.std.proofs.lemmas.Option.{none-some}
use Rattle.std.specs.Option.{option_map}
use Rattle.std.proofs.lemmas.Bool.{cases_lt}
use Rattle.floor_loop.specs.declared.line.Entry.{Entry}
use Rattle.floor_loop.specs.Away.{ends_of}
use Rattle.floor_loop.specs.Loop.{Attended, earlier, over_in, until_in}

-- the earlier of two times is no later than each
pub earlier-first : (x y : Option ℕ) (t : ℕ) → x ≡ Some t → (u : ℕ) × (earlier x y ≡ Some u) × (u ≤ t)
earlier-first x None t e = (t, ap (λ (z : Option ℕ). earlier z None) e, omega arith)
earlier-first x (Some s) t e = (min t s, ap (λ (z : Option ℕ). earlier z (Some s)) e, omega arith)

pub earlier-second : (x y : Option ℕ) (t : ℕ) → y ≡ Some t → (u : ℕ) × (earlier x y ≡ Some u) × (u ≤ t)
earlier-second None y t e = (t, e, omega arith)
earlier-second (Some s) y t e = (min s t, ap (earlier (Some s)) e, omega arith)

-- whose connection is to be shut down is left alone no longer
pub over-due : (a : Attended) (number : ℕ) → (until : ℕ) × (until_in a number ≡ Some until) × (until ≤ a.time) → (until : ℕ) × (over_in a number ≡ Some until) × (until ≤ a.time)
over-due a number d =
    let u = earlier-first (until_in a number) (ends_of a.away number) d.0 d.1 in
    let le = u.2 in
    let before = d.2 in
    (u.0, u.1, omega (arith, le, before))

-- nor is whoever has been away for as long as it may
pub over-stay : (a : Attended) (number now : ℕ) → now ≡ a.time → (until : ℕ) × (ends_of a.away number ≡ Some until) × (until ≤ now) → (until : ℕ) × (over_in a number ≡ Some until) × (until ≤ a.time)
over-stay a number now same d =
    let u = earlier-second (until_in a number) (ends_of a.away number) d.0 d.1 in
    let le = u.2 in
    let before = d.2 in
    (u.0, u.1, omega (arith, le, before, same))

some-time : (a b : ℕ) → ◌≡◌ {A = Option ℕ} (Some a) (Some b) → a ≡ b
some-time a b e = cc

none-time : (a : ℕ) → ◌≡◌ {A = Option ℕ} None (Some a) → ⊥
none-time a e = cc

-- the first of both is somebody's
pub first-over : (a : Attended) (due : Option ℕ) (first : Option Entry) →
    IfSome due (λ until. (number : ℕ) × (until_in a number ≡ Some until)) → IfSome due (λ until. (number t : ℕ) → until_in a number ≡ Some t → until ≤ t) → (due ≡ None → (number : ℕ) → until_in a number ≡ None) →
    IfSome first (λ e. ends_of a.away e.number ≡ Some e.time) → IfSome first (λ e. (number t : ℕ) → ends_of a.away number ≡ Some t → e.time ≤ t) → (first ≡ None → (number : ℕ) → ends_of a.away number ≡ None) →
    IfSome (earlier due (option_map (λ e. e.time) first)) (λ until. (number : ℕ) × (over_in a number ≡ Some until))
first-over a None None f l n g m k = tt
first-over a None (Some e) f l n g m k = (e.number, ap (λ (z : Option ℕ). earlier z (ends_of a.away e.number)) (n refl e.number) ∙ g)
first-over a (Some d) None f l n g m k = (f.0, ap (λ (z : Option ℕ). earlier z (ends_of a.away f.0)) f.1 ∙ ap (earlier (Some d)) (k refl f.0))
first-over a (Some d) (Some e) f l n g m k = by (cases_lt e.time d)
  where
    by : (e.time < d) ⊎ (d ≤ e.time) → (number : ℕ) × (over_in a number ≡ Some (min d e.time))
    by (inr le) = (f.0, ap (λ (z : Option ℕ). earlier z (ends_of a.away f.0)) f.1 ∙ ends (ends_of a.away f.0) refl)
      where
        ends : (z : Option ℕ) → ends_of a.away f.0 ≡ z → earlier (Some d) (ends_of a.away f.0) ≡ Some (min d e.time)
        ends None h = ap (earlier (Some d)) h ∙ ap Some (omega (arith, le))
        ends (Some t) h = let least = m f.0 t h in ap (earlier (Some d)) h ∙ ap Some (omega (arith, le, least))
    by (inl less) = (e.number, untils (until_in a e.number) refl)
      where
        untils : (z : Option ℕ) → until_in a e.number ≡ z → earlier (until_in a e.number) (ends_of a.away e.number) ≡ Some (min d e.time)
        untils None h = ap (λ (y : Option ℕ). earlier y (ends_of a.away e.number)) h ∙ g ∙ ap Some (omega (arith, less))
        untils (Some t) h = let least = l e.number t h in ap (λ (y : Option ℕ). earlier y (ends_of a.away e.number)) h ∙ ap (earlier (Some t)) g ∙ ap Some (omega (arith, less, least))

pub if-found : {P Q : ℕ → Type 0} (r : Option ℕ) → ((number : ℕ) → P number → Q number) → IfSome r P → IfSome r Q
if-found None f p = tt
if-found (Some number) f p = f number p

pub if-none-is : {P : Type 0} (r : Option ℕ) → IfNone r P → r ≡ None → P
if-none-is None p e = p
if-none-is (Some t) p e = absurd (none-time t (sym e))

pub if-none-entry : {P : Type 0} (r : Option Entry) → IfNone r P → r ≡ None → P
if-none-entry None p e = p
if-none-entry (Some x) p e = absurd (none-some x (sym e))
