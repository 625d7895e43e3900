-- A line that has come is the same whatever comes behind it.
use Rattle.std.proofs.Common.{◌≡◌, ◌<◌, ◌≤◌, ◌+◌, ℕ, suc, Bool, true, false, cond, not, nat_le, nat_lt, List, [], ◌∷◌, ◌++◌, length, get_or, take, drop, refl, sym, ◌∙◌, ap, arith, eqb-true, length-append, lt-ltb, ltb-true}
use Rattle.std.specs.Prelude.{Option, Some, None}
use Rattle.std.specs.List.{list_any, position_or_len}
use Rattle.std.proofs.lemmas.Bool.{false≢true}
use Rattle.std.proofs.lemmas.List.{drop-append-le, get_or-take, length-take, take-append-le}
use Rattle.std.proofs.lemmas.List.Folds.{list_any_none}
use Rattle.std.proofs.lemmas.List.Sums.{fails_before_first, passes_at_first, split_at_first}
use Rattle.floor_control.specs.Incoming.{Incoming, is_line_feed, is_text, line_len, line_next, next_at, next_of, rest_at, rest_of, took_in, without_line}
use Rattle.floor_control.specs.Streams.{LinesStay, is_line}
use Rattle.floor_control.specs.declared.incoming.Next.TheVariants.{Line, NotText, TooLong, Nothing, Ended}

-- a line feed stands at this place, the first, and a line may be so long
pub record Found (bytes : List ℕ) (len : ℕ) : Type 0 where
  pub place : position_or_len is_line_feed bytes ≡ len
  pub within : len < length bytes
  pub few : nat_le len 65536 ≡ true

no_line_on : (b c : Bool) → is_line (cond b TooLong (cond c Ended Nothing)) ≡ true → ⊥
no_line_on true c e = false≢true e
no_line_on false true e = false≢true e
no_line_on false false e = false≢true e

found_few : (i : Incoming) (len : ℕ) (b : Bool) → nat_le len 65536 ≡ b → is_line (cond b (line_next (take len i.held)) (without_line i)) ≡ true → nat_le len 65536 ≡ true
found_few i len true e h = e
found_few i len false e h = absurd (no_line_on (nat_lt 65536 (length i.held)) i.has_ended h)

place_on : (bytes : List ℕ) (len : ℕ) (b : Bool) → nat_lt (position_or_len is_line_feed bytes) (length bytes) ≡ b
    → cond b (Some (position_or_len is_line_feed bytes)) None ≡ Some len
    → (position_or_len is_line_feed bytes ≡ len) × (position_or_len is_line_feed bytes < length bytes)
place_on bytes len true e h = (cc h, ltb-true (position_or_len is_line_feed bytes) (length bytes) e)
place_on bytes len false e h = cc h

found_on : (i : Incoming) (o : Option ℕ) → line_len i.held ≡ o → is_line (next_at o i) ≡ true → (len : ℕ) × Found i.held len
found_on i (Some len) e h =
    let (place, within) = place_on i.held len (nat_lt (position_or_len is_line_feed i.held) (length i.held)) refl e in
    (len, record { place = place; within = omega (arith, place, within); few = found_few i len (nat_le len 65536) refl h })
found_on i None e h = absurd (no_line_on (nat_lt 65536 (length i.held)) i.has_ended h)

found : (i : Incoming) → is_line (next_of i) ≡ true → (len : ℕ) × Found i.held len
found i h = found_on i (line_len i.held) refl h

there : (b : Bool) (n : ℕ) → b ≡ true → cond b (Some n) None ≡ Some n
there true n e = refl
there false n e = absurd (false≢true e)

len_of : (bytes : List ℕ) (len : ℕ) → Found bytes len → line_len bytes ≡ Some len
len_of bytes len f =
    there (nat_lt (position_or_len is_line_feed bytes) (length bytes)) (position_or_len is_line_feed bytes)
    (lt-ltb (position_or_len is_line_feed bytes) (length bytes) (omega (arith, f.place, f.within)))
    ∙ ap Some f.place

-- more bytes behind change nothing
further_on : (b : ℕ) (bytes more : List ℕ) (t : Bool) → is_line_feed b ≡ t
    → (position_or_len is_line_feed bytes < length bytes → position_or_len is_line_feed (bytes ++ more) ≡ position_or_len is_line_feed bytes)
    → cond (not t) (1 + position_or_len is_line_feed bytes) 0 < suc (length bytes)
    → cond (not t) (1 + position_or_len is_line_feed (bytes ++ more)) 0 ≡ cond (not t) (1 + position_or_len is_line_feed bytes) 0
further_on b bytes more true e h within = refl
further_on b bytes more false e h within = ap (λ n. 1 + n) (h (omega (arith, within)))

further : (bytes more : List ℕ) → position_or_len is_line_feed bytes < length bytes → position_or_len is_line_feed (bytes ++ more) ≡ position_or_len is_line_feed bytes
further [] more within = absurd (omega (arith, within))
further (b ∷ bytes) more within = further_on b bytes more (is_line_feed b) refl (further bytes more) within

found_further : (bytes more : List ℕ) (len : ℕ) → Found bytes len → Found (bytes ++ more) len
found_further bytes more len f =
    record {
      place = further bytes more (omega (arith, f.place, f.within)) ∙ f.place;
      within = omega (arith, f.within, length-append bytes more);
      few = f.few;
    }

taken : {A : Type 0} (b : Bool) (x y : A) → b ≡ true → cond b x y ≡ x
taken true x y e = refl
taken false x y e = absurd (false≢true e)

-- what comes next, and what is left
next_is : (i : Incoming) (len : ℕ) → Found i.held len → next_of i ≡ line_next (take len i.held)
next_is i len f = ap (λ o. next_at o i) (len_of i.held len f) ∙ taken (nat_le len 65536) _ _ f.few

rest_is : (i : Incoming) (len : ℕ) → Found i.held len → rest_of i ≡ record i { held = drop (len + 1) i.held }
rest_is i len f = ap (λ o. rest_at o i) (len_of i.held len f) ∙ taken (nat_le len 65536) _ _ f.few

abbrev with : Incoming → List ℕ → Incoming
with i more = record i { held = i.held ++ more }

next_on : (i : Incoming) (more : List ℕ) (b : Bool) → is_line (next_of i) ≡ true → next_of (cond b i (with i more)) ≡ next_of i
next_on i more true e = refl
next_on i more false e =
    let (len, f) = found i e in
    let within : len ≤ length i.held = omega (arith, f.within) in
    next_is (with i more) len (found_further i.held more len f) ∙ ap line_next (take-append-le len i.held more within) ∙ sym (next_is i len f)

passed : {A : Type 0} (b : Bool) (x y : A) → b ≡ false → cond b x y ≡ y
passed true x y e = absurd (false≢true (sym e))
passed false x y e = refl

rest_on : (i : Incoming) (more : List ℕ) (b : Bool) → i.has_ended ≡ b → is_line (next_of i) ≡ true → rest_of (cond b i (with i more)) ≡ took_in more (rest_of i)
rest_on i more true e h =
    let (len, f) = found i h in
    rest_is i len f ∙ sym (taken i.has_ended (record i { held = drop (len + 1) i.held }) _ e) ∙ ap (took_in more) (sym (rest_is i len f))
rest_on i more false e h =
    let (len, f) = found i h in
    let within : len + 1 ≤ length i.held = omega (arith, f.within) in
    rest_is (with i more) len (found_further i.held more len f)
    ∙ ap (λ held. record i { held = held }) (drop-append-le (len + 1) i.held more within)
    ∙ sym (passed i.has_ended (record i { held = drop (len + 1) i.held }) _ e)
    ∙ ap (took_in more) (sym (rest_is i len f))

line_of_on : (bytes line : List ℕ) (b : Bool) → cond b (Line bytes) (NotText (length bytes)) ≡ Line line → bytes ≡ line
line_of_on bytes line true e = cc e
line_of_on bytes line false e = cc e

line_is : (i : Incoming) (line : List ℕ) (len : ℕ) → Found i.held len → next_of i ≡ Line line → take len i.held ≡ line
line_is i line len f e = line_of_on (take len i.held) line (is_text (take len i.held)) (sym (next_is i len f) ∙ e)

cut_at : (bytes : List ℕ) (len : ℕ) → Found bytes len → bytes ≡ take len bytes ++ 10 ∷ drop (len + 1) bytes
cut_at bytes len f =
    let place = position_or_len is_line_feed bytes in
    let within : place < length bytes = omega (arith, f.place, f.within) in
    let feed : get_or bytes place 0 ≡ 10 = eqb-true (get_or bytes place 0) 10 (passes_at_first is_line_feed bytes 0 within) in
    split_at_first is_line_feed bytes 0 within
    ∙ ap (λ b. take place bytes ++ b ∷ drop (place + 1) bytes) feed
    ∙ ap (λ n. take n bytes ++ 10 ∷ drop (n + 1) bytes) f.place

clear_before : (bytes : List ℕ) (len : ℕ) → Found bytes len → list_any is_line_feed (take len bytes) ≡ false
clear_before bytes len f =
    list_any_none is_line_feed (take len bytes)
    (λ k d below. let early : k < len = omega (arith, below, length-take len bytes) in
    ap is_line_feed (get_or-take len bytes k d early) ∙ fails_before_first is_line_feed bytes k d (omega (arith, f.place, early)))

pub lines_stay : LinesStay
lines_stay =
    record {
      next = λ i more e. next_on i more i.has_ended e;
      rest = λ i more e. rest_on i more i.has_ended refl e;
      front = λ i line e. let (len, f) = found i (ap is_line e) in
          cut_at i.held len f ∙ ap (λ l. l ++ 10 ∷ drop (len + 1) i.held) (line_is i line len f e)
          ∙ ap (λ r. line ++ 10 ∷ r.held) (sym (rest_is i len f));
      whole = λ i line e. let (len, f) = found i (ap is_line e) in ap (list_any is_line_feed) (sym (line_is i line len f e)) ∙ clear_before i.held len f;
    }
