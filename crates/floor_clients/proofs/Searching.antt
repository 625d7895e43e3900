-- Where the first line feed stands.
use Rattle.std.proofs.Common.{◌≡◌, ◌<◌, ◌≤◌, ◌+◌, ◌-◌, ℕ, zero, suc, Bool, true, false, cond, not, nat_lt, List, [], ◌∷◌, ◌++◌, length, drop, take, get_or, refl, sym, subst, ◌∙◌, ap, arith, eqb-true, lt-ltb, ltb-true, length-append}
use Rattle.std.specs.Prelude.{Option, Some, None, Result, Ok, Err, OnOk, OnErr}
use Rattle.std.specs.List.{list_any, position_or_len}
use Rattle.std.proofs.lemmas.Bool.{false≢true, ltb-false}
use Rattle.std.proofs.lemmas.List.{get_or-take, length-take, length-drop}
use Rattle.std.proofs.lemmas.List.Folds.{list_any_none}
use Rattle.std.proofs.lemmas.List.Sums.{fails_before_first, passes_at_first, split_at_first}
use Rattle.floor_clients.specs.Lines.{is_line_feed, line_len, has_line_feed}

abbrev pub first : List ℕ → ℕ
first bytes = position_or_len is_line_feed bytes

pub first_within : (bytes : List ℕ) → first bytes ≤ length bytes
first_within [] = omega arith
first_within (b ∷ bytes) = on (is_line_feed b) (first_within bytes)
  where
    on : (t : Bool) → first bytes ≤ length bytes → cond (not t) (1 + first bytes) 0 ≤ suc (length bytes)
    on true h = omega arith
    on false h = omega (arith, h)

-- behind bytes that have none before it, it stands so much further on
pub skipped : (searched : ℕ) (bytes : List ℕ) → searched ≤ first bytes → first bytes ≡ searched + first (drop searched bytes)
skipped zero bytes h = omega arith
skipped (suc s) [] h = absurd (omega (arith, h))
skipped (suc s) (b ∷ bytes) h = on (is_line_feed b) h (skipped s bytes)
  where
    on : (t : Bool) → suc s ≤ cond (not t) (1 + first bytes) 0 → (s ≤ first bytes → first bytes ≡ s + first (drop s bytes))
        → cond (not t) (1 + first bytes) 0 ≡ suc s + first (drop s bytes)
    on true few next = absurd (omega (arith, few))
    on false few next = let is = next (omega (arith, few)) in omega (arith, is)

-- it doesn't come nearer where more bytes come
pub grown : (bytes more : List ℕ) → first bytes ≤ first (bytes ++ more)
grown [] more = omega arith
grown (b ∷ bytes) more = on (is_line_feed b) (grown bytes more)
  where
    on : (t : Bool) → first bytes ≤ first (bytes ++ more) → cond (not t) (1 + first bytes) 0 ≤ cond (not t) (1 + first (bytes ++ more)) 0
    on true h = omega arith
    on false h = omega (arith, h)

-- that there is one, or none
pub there : (bytes : List ℕ) (len : ℕ) → line_len bytes ≡ Some len → (first bytes ≡ len) × (len < length bytes)
there bytes len e = on (nat_lt (first bytes) (length bytes)) refl e
  where
    on : (b : Bool) → nat_lt (first bytes) (length bytes) ≡ b → cond b (Some (first bytes)) None ≡ Some len → (first bytes ≡ len) × (len < length bytes)
    on true t h = let same : first bytes ≡ len = cc in let less = ltb-true (first bytes) (length bytes) t in (same, omega (arith, same, less))
    on false t h = absurd cc

pub nowhere : (bytes : List ℕ) → line_len bytes ≡ None → length bytes ≤ first bytes
nowhere bytes e = on (nat_lt (first bytes) (length bytes)) refl e
  where
    on : (b : Bool) → nat_lt (first bytes) (length bytes) ≡ b → ◌≡◌ {A = Option ℕ} (cond b (Some (first bytes)) None) None → length bytes ≤ first bytes
    on true t h = absurd cc
    on false t h = ltb-false (first bytes) (length bytes) t

chosen : (b : Bool) (n : ℕ) → b ≡ true → ◌≡◌ {A = Option ℕ} (cond b (Some n) None) (Some n)
chosen true n e = refl
chosen false n e = absurd (false≢true e)

passed : (b : Bool) (n : ℕ) → b ≡ false → ◌≡◌ {A = Option ℕ} (cond b (Some n) None) None
passed true n e = absurd (false≢true (sym e))
passed false n e = refl

pub some_there : (bytes : List ℕ) (len : ℕ) → first bytes ≡ len → len < length bytes → line_len bytes ≡ Some len
some_there bytes len is less = chosen (nat_lt (first bytes) (length bytes)) (first bytes) (lt-ltb (first bytes) (length bytes) (omega (arith, is, less))) ∙ ap Some is

pub none_there : (bytes : List ℕ) → length bytes ≤ first bytes → line_len bytes ≡ None
none_there bytes h = passed (nat_lt (first bytes) (length bytes)) (first bytes) (no (nat_lt (first bytes) (length bytes)) refl)
  where
    no : (b : Bool) → nat_lt (first bytes) (length bytes) ≡ b → nat_lt (first bytes) (length bytes) ≡ false
    no true t = let less = ltb-true (first bytes) (length bytes) t in absurd (omega (arith, less, h))
    no false t = t

-- behind so many bytes that have none
pub found_behind : (bytes : List ℕ) (searched len : ℕ) → searched ≤ first bytes → line_len (drop searched bytes) ≡ Some len
    → (line_len bytes ≡ Some (searched + len)) × (searched + len < length bytes) × (searched + len ≤ first bytes)
found_behind bytes searched len few e =
    let at = there (drop searched bytes) len e in
    let is = skipped searched bytes few in
    let within = first_within bytes in
    let same : first bytes ≡ searched + len = omega (arith, is, at.0) in
    let less : searched + len < length bytes = omega (arith, at.1, length-drop searched bytes, within, few) in
    (some_there bytes (searched + len) same less, less, omega (arith, same))

pub none_behind : (bytes : List ℕ) (searched : ℕ) → searched ≤ first bytes → line_len (drop searched bytes) ≡ None → (line_len bytes ≡ None) × (length bytes ≤ first bytes)
none_behind bytes searched few e =
    let at = nowhere (drop searched bytes) e in
    let is = skipped searched bytes few in
    let within = first_within bytes in
    let far : length bytes ≤ first bytes = omega (arith, at, is, length-drop searched bytes, within, few) in
    (none_there bytes far, far)

-- the bytes up to it, it, and those behind it
pub cut_at : (bytes : List ℕ) (len : ℕ) → line_len bytes ≡ Some len → bytes ≡ take len bytes ++ 10 ∷ drop (len + 1) bytes
cut_at bytes len e =
    let at = there bytes len e in
    let within : first bytes < length bytes = omega (arith, at.0, at.1) in
    let feed : get_or bytes (first bytes) 0 ≡ 10 = eqb-true (get_or bytes (first bytes) 0) 10 (passes_at_first is_line_feed bytes 0 within) in
    split_at_first is_line_feed bytes 0 within
    ∙ ap (λ b. take (first bytes) bytes ++ b ∷ drop (first bytes + 1) bytes) feed
    ∙ ap (λ n. take n bytes ++ 10 ∷ drop (n + 1) bytes) at.0

pub clear_before : (bytes : List ℕ) (len : ℕ) → line_len bytes ≡ Some len → has_line_feed (take len bytes) ≡ false
clear_before bytes len e =
    let at = there bytes len e in
    list_any_none is_line_feed (take len bytes)
    (λ k d below. let early : k < len = omega (arith, below, length-take len bytes) in
    ap is_line_feed (get_or-take len bytes k d early) ∙ fails_before_first is_line_feed bytes k d (omega (arith, at.0, early)))

-- so many bytes have none before it also where more were taken in, or none
pub grown_by : {A E : Type 0} (r : Result A E) (searched : ℕ) (old more new : List ℕ) → searched ≤ first old
    → OnOk r (new ≡ old ++ more) → OnErr r (new ≡ old) → searched ≤ first new
grown_by (Ok a) searched old more new few ok err = subst (λ bytes. searched ≤ first bytes) (sym ok) (let less = grown old more in omega (arith, few, less))
grown_by (Err e) searched old more new few ok err = subst (λ bytes. searched ≤ first bytes) (sym err) few
