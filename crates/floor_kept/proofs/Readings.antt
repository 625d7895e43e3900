-- Bytes are read in one way at most.
use Rattle.std.proofs.Common.{◌≡◌, ◌==◌, ◌<◌, ◌≤◌, ◌+◌, ◌/◌, ◌%◌, ◌^◌, ◌&&◌, ℕ, zero, suc, Bool, true, false, not, List, [], ◌∷◌, ◌++◌, refl, sym, ◌∙◌, ap, subst, arith, append_assoc, eqb-true, ◌-◌}
use Rattle.std.specs.Prelude.{IfSome, Option, Some, None, Result, Ok, codes, slice_index}
use Rattle.std.specs.Fmt.{decimal}
use Rattle.std.specs.List.{join_with_byte, list_all}
use Rattle.std.proofs.lemmas.Bool.{false≢true, leb-true}
use Rattle.std.proofs.lemmas.Fmt.{decimal_by_steps}
use Rattle.std.proofs.lemmas.Slice.Eq.{bytes_eq-Decides}
use Rattle.hex.specs.Hex.{encode_lower, encode_with, lower_digits}
use Rattle.floor_config.specs.Configuration.{Configuration}
use Rattle.floor_config.specs.declared.fault.ConfigFault.{ConfigFault}
use Rattle.floor_config.specs.Reading.{reading}
use Rattle.floor_machine.specs.declared.event.Event.{Event}
use Rattle.floor_machine.specs.declared.event.Event.TheVariants.{Join, Message, Took, Leave, Revoke, Close, AddUser, AddFloor, SetChair, Say}
use Rattle.floor_room.specs.Text.{mark_word, number_word, text_word}
use Rattle.floor_words.specs.Laws.{NumbersAreReadBack, WordsAreReadBack, is_plain}
use Rattle.floor_kept.specs.Body.{AreEntries, entry_lines, is_one_line}
use Rattle.floor_kept.specs.Entries.{IsBorne, IsEntry, IsLineOf, entry_line, is_within, place_behind}
use Rattle.floor_kept.specs.Head.{divider, first_line, head_text, is_table_line, lines_of}
use Rattle.floor_kept.specs.Laws.{OneFile}
use Rattle.floor_kept.specs.declared.entry.Entry.{Entry}
use Rattle.floor_kept.specs.declared.entry.Entry.TheVariants.{Happened, Port, Word, End}
use Rattle.floor_kept.proofs.Found.{same_entry}
use Rattle.floor_kept.proofs.Spelled.{event_spelled, joined, spelled}

both : (a b : Bool) → a ≡ true → b ≡ true → (a && b) ≡ true
both true b e h = h
both false b e h = absurd (false≢true e)

left : (a b : Bool) → (a && b) ≡ true → a ≡ true
left true b e = refl
left false b e = e

right : (a b : Bool) → (a && b) ≡ true → b ≡ true
right true b e = e
right false b e = absurd (false≢true e)

-- a byte that isn't 10 is no line feed
other : (b : ℕ) → 10 < b → not (b == 10) ≡ true
other b more = elim (b == 10) as (λ t. (b == 10) ≡ t → not t ≡ true) [
  | true ↦ λ e. absurd (omega (arith, more, eqb-true b 10 e))
  | false ↦ λ e. refl
] refl

-- what stands in one line, one behind another
pub one-more : (xs ys : List ℕ) → is_one_line xs ≡ true → is_one_line ys ≡ true → is_one_line (xs ++ ys) ≡ true
one-more [] ys e h = h
one-more (x ∷ xs) ys e h = both (not (x == 10)) _ (left (not (x == 10)) _ e) (one-more xs ys (right (not (x == 10)) _ e) h)

decimal-is-one : (n : ℕ) → n < 2 ^ 64 → is_one_line (decimal n) ≡ true
decimal-is-one n h =
    decimal_by_steps (λ k ds. is_one_line ds ≡ true)
    (λ k few. both (not ((48 + k) == 10)) true (other (48 + k) (omega arith)) refl)
    (λ k ds many one. one-more ds ((48 + k % 10) ∷ []) one (both (not ((48 + k % 10) == 10)) true (other (48 + k % 10) (omega arith)) refl))
    n h

one-at : (t : List ℕ) (k : ℕ) → is_one_line t ≡ true → not (slice_index t k == 10) ≡ true
one-at [] k e = refl
one-at (b ∷ t) zero e = left (not (b == 10)) _ e
one-at (b ∷ t) (suc k) e = one-at t k (right (not (b == 10)) _ e)

hex-is-one : (bytes : List ℕ) → is_one_line (encode_lower bytes) ≡ true
unfolding encode_with
hex-is-one [] = refl
hex-is-one (b ∷ bytes) =
    both (not (slice_index lower_digits (b / 16) == 10)) _ (one-at lower_digits (b / 16) refl)
    (both (not (slice_index lower_digits (b % 16) == 10)) _ (one-at lower_digits (b % 16) refl) (hex-is-one bytes))

text-is-one : (o : Option (List ℕ)) → is_one_line (text_word o) ≡ true
text-is-one None = refl
text-is-one (Some []) = refl
text-is-one (Some (b ∷ bytes)) = hex-is-one (b ∷ bytes)

mark-is-one : (b : Bool) → is_one_line (mark_word b) ≡ true
mark-is-one true = refl
mark-is-one false = refl

-- words, each of which has no line feed
abbrev AreOne : List (List ℕ) → Type 0
AreOne [] = Unit {0}
AreOne (w ∷ ws) = (is_one_line w ≡ true) × AreOne ws

join-is-one : (ws : List (List ℕ)) → AreOne ws → is_one_line (join_with_byte 32 ws) ≡ true
join-is-one [] h = refl
join-is-one (w ∷ []) h = h.0
join-is-one (w ∷ v ∷ ws) h = one-more w (32 ∷ join_with_byte 32 (v ∷ ws)) h.0 (join-is-one (v ∷ ws) h.1)

short : (n : ℕ) → n < 2 ^ 16 → is_one_line (decimal n) ≡ true
short n h = decimal-is-one n (omega (arith, h))

long : (n : ℕ) → n < 2 ^ 32 → is_one_line (decimal n) ≡ true
long n h = decimal-is-one n (omega (arith, h))

number-is-one : (o : Option ℕ) → IfSome o (λ n. n < 2 ^ 16) → is_one_line (number_word o) ≡ true
number-is-one None h = refl
number-is-one (Some n) h = short n h

event-is-one : (e : Event) → IsBorne e → AreOne (event_spelled e)
event-is-one (Join user) h = (refl, (short user h, tt))
event-is-one (Message n bytes) h = (refl, (long n h.0, (hex-is-one bytes, tt)))
event-is-one (Took n k) h = (refl, (long n h.0, (long k h.1, tt)))
event-is-one (Leave n) h = (refl, (long n h, tt))
event-is-one (Revoke request) h = (refl, (short request h, tt))
event-is-one Close h = (refl, tt)
event-is-one (AddUser user) h = (refl, (short user.id h.id, (mark-is-one user.proxy, (text-is-one user.name, (text-is-one user.uri, tt)))))
event-is-one (AddFloor floor) h = (refl, (short floor.id h.id, (short floor.room h.room, (number-is-one floor.chair h.chair, tt))))
event-is-one (SetChair floor chair) h = (refl, (short floor h.0, (number-is-one chair h.1, tt)))
event-is-one (Say user bytes) h = (refl, (short user h.0, (hex-is-one bytes, tt)))

entry-is-one : (place : ℕ) (entry : Entry) → place < 2 ^ 32 → IsEntry entry → AreOne (spelled place entry)
entry-is-one place (Happened e) few h = (long place few, event-is-one e h)
entry-is-one place (Port user port) few h = (refl, (refl, (short user h.0, (short port h.1, tt))))
entry-is-one place (Word key value) few h = (refl, (refl, (right (is_plain key) _ h.0, (text-is-one value, tt))))
entry-is-one place End few h = (refl, (long (place - 1) (omega (arith, few)), tt))

-- an entry's line, without its line feed
abbrev pub text_at : ℕ → Entry → List ℕ
text_at place entry = join_with_byte 32 (spelled place entry)

text-is-line : (place : ℕ) (entry : Entry) → place < 2 ^ 32 → IsEntry entry → is_one_line (text_at place entry) ≡ true
text-is-line place entry few h = join-is-one (spelled place entry) (entry-is-one place entry few h)

-- two lines, each with its line feed, are the same where all is
cut-once : (xs ys cs bs : List ℕ) → is_one_line xs ≡ true → is_one_line ys ≡ true → xs ++ (10 ∷ cs) ≡ ys ++ (10 ∷ bs) → (xs ≡ ys) × (cs ≡ bs)
cut-once [] [] cs bs e h same = (refl, cc same)
cut-once [] (y ∷ ys) cs bs e h same =
    let first : 10 ≡ y = cc same in
    absurd (false≢true (ap (λ (b : ℕ). not (b == 10)) first ∙ left (not (y == 10)) _ h))
cut-once (x ∷ xs) [] cs bs e h same =
    let first : 10 ≡ x = cc (sym same) in
    absurd (false≢true (ap (λ (b : ℕ). not (b == 10)) first ∙ left (not (x == 10)) _ e))
cut-once (x ∷ xs) (y ∷ ys) cs bs e h same =
    let first : x ≡ y = cc same in
    let rest : xs ++ (10 ∷ cs) ≡ ys ++ (10 ∷ bs) = cc same in
    let t = cut-once xs ys cs bs (right (not (x == 10)) _ e) (right (not (y == 10)) _ h) rest in
    (ap (λ (b : ℕ). b ∷ xs) first ∙ ap (λ (l : List ℕ). y ∷ l) t.0, t.1)

-- a text without a line feed is no line with one
uncut : (xs ys bs : List ℕ) → is_one_line xs ≡ true → xs ≡ ys ++ (10 ∷ bs) → ⊥
uncut [] [] bs e same = cc same
uncut [] (y ∷ ys) bs e same = cc same
uncut (x ∷ xs) [] bs e same =
    let first : 10 ≡ x = cc (sym same) in
    false≢true (ap (λ (b : ℕ). not (b == 10)) first ∙ left (not (x == 10)) _ e)
uncut (x ∷ xs) (y ∷ ys) bs e same = let rest : xs ≡ ys ++ (10 ∷ bs) = cc same in uncut xs ys bs (right (not (x == 10)) _ e) rest

-- the bytes of lines, of which the first is cut off
first-cut : (place : ℕ) (e : Entry) (es : List Entry) (torn : List ℕ) → entry_lines place (e ∷ es) ++ torn ≡ text_at place e ++ (10 ∷ (entry_lines (place_behind place e) es ++ torn))
first-cut place e es torn =
    append_assoc (entry_line place e) (entry_lines (place_behind place e) es) torn
    ∙ ap (λ (l : List ℕ). l ++ (entry_lines (place_behind place e) es ++ torn)) (joined place e)
    ∙ append_assoc (text_at place e) (codes "\n") (entry_lines (place_behind place e) es ++ torn)

-- a journal's places stay within its greatest length
pub next-few : (place : ℕ) (e : Entry) → place ≤ 2000001 → is_within place e ≡ true → place_behind place e ≤ 2000001
next-few place (Happened e) few within = let le = leb-true place 2000000 within in omega (arith, le)
next-few place (Port user port) few within = few
next-few place (Word key value) few within = few
next-few place End few within = few

module _ (again : WordsAreReadBack) (numbers : NumbersAreReadBack) where
  pub one-body : (place : ℕ) (es fs : List Entry) (torn more : List ℕ) → place ≤ 2000001 → AreEntries place es → AreEntries place fs → is_one_line torn ≡ true → is_one_line more ≡ true
      → entry_lines place es ++ torn ≡ entry_lines place fs ++ more → es ≡ fs
  one-body place [] [] torn more few h j e f same = refl
  one-body place [] (g ∷ fs) torn more few h j e f same = absurd (uncut torn (text_at place g) _ e (same ∙ first-cut place g fs more))
  one-body place (k ∷ es) [] torn more few h j e f same = absurd (uncut more (text_at place k) _ f (sym same ∙ first-cut place k es torn))
  one-body place (k ∷ es) (g ∷ fs) torn more few h j e f same =
      let small : place < 2 ^ 32 = omega (arith, few) in
      let t = cut-once (text_at place k) (text_at place g) _ _ (text-is-line place k small h.0) (text-is-line place g small j.0) (sym (first-cut place k es torn) ∙ same ∙ first-cut place g fs more) in
      let line : IsLineOf place (text_at place k) k = record { fits = h.0; within = h.1; printed = joined place k } in
      let one : IsLineOf place (text_at place k) g = record { fits = j.0; within = j.1; printed = joined place g ∙ ap (λ (l : List ℕ). l ++ codes "\n") (sym t.0) } in
      let it : k ≡ g = same_entry again numbers place (text_at place k) k g small line one in
      let behind : place_behind place g ≡ place_behind place k = ap (place_behind place) (sym it) in
      let fits : AreEntries (place_behind place k) fs = subst (λ (p : ℕ). AreEntries p fs) behind j.2 in
      let rest : es ≡ fs =
      one-body (place_behind place k) es fs torn more (next-few place k few h.1) h.2 fits e f (t.1 ∙ ap (λ (p : ℕ). entry_lines p fs ++ more) behind) in
      ap (λ (x : Entry). x ∷ es) it ∙ ap (λ (xs : List Entry). g ∷ xs) rest

  -- a head is cut in one way
  divider-isnt : (l cs bs : List ℕ) → is_table_line l ≡ true → divider ++ cs ≡ l ++ (10 ∷ bs) → ⊥
  divider-isnt l cs bs e same =
      let t = cut-once (codes "---") l cs bs refl (left (is_one_line l) _ e) same in
      false≢true (ap not (sym ((bytes_eq-Decides l (codes "---")).1 (sym t.0))) ∙ right (is_one_line l) _ e)

  one-head : (ks ls : List (List ℕ)) (cs bs : List ℕ) → list_all is_table_line ks ≡ true → list_all is_table_line ls ≡ true → lines_of ks ++ (divider ++ cs) ≡ lines_of ls ++ (divider ++ bs) → (ks ≡ ls) × (cs ≡ bs)
  one-head [] [] cs bs e h same = (refl, (cut-once (codes "---") (codes "---") cs bs refl refl same).1)
  one-head [] (l ∷ ls) cs bs e h same = absurd (divider-isnt l cs _ (left (is_table_line l) _ h) (same ∙ append_assoc l (10 ∷ lines_of ls) (divider ++ bs)))
  one-head (k ∷ ks) [] cs bs e h same = absurd (divider-isnt k bs _ (left (is_table_line k) _ e) (sym same ∙ append_assoc k (10 ∷ lines_of ks) (divider ++ cs)))
  one-head (k ∷ ks) (l ∷ ls) cs bs e h same =
      let t = cut-once k l _ _ (left (is_one_line k) _ (left (is_table_line k) _ e)) (left (is_one_line l) _ (left (is_table_line l) _ h))
      (sym (append_assoc k (10 ∷ lines_of ks) (divider ++ cs)) ∙ same ∙ append_assoc l (10 ∷ lines_of ls) (divider ++ bs)) in
      let u = one-head ks ls cs bs (right (is_table_line k) _ e) (right (is_table_line l) _ h) t.1 in
      (ap (λ (x : List ℕ). x ∷ ks) t.0 ∙ ap (λ (xs : List (List ℕ)). l ∷ xs) u.0, u.1)

  first-same : (cs bs : List ℕ) → first_line ++ cs ≡ first_line ++ bs → cs ≡ bs
  first-same cs bs same = (cut-once (codes "floorhub journal 1") (codes "floorhub journal 1") cs bs refl refl same).1

  one-config : (a b : Configuration) (r : Result (List Configuration) ConfigFault) → r ≡ Ok (a ∷ []) → r ≡ Ok (b ∷ []) → a ≡ b
  one-config a b r e h = cc (sym e ∙ h)

  head-apart : (ls : List (List ℕ)) (cs : List ℕ) → head_text ls ++ cs ≡ first_line ++ (lines_of ls ++ (divider ++ cs))
  head-apart ls cs = append_assoc first_line (lines_of ls ++ divider) cs ∙ ap (λ (l : List ℕ). first_line ++ l) (append_assoc (lines_of ls) divider cs)

  pub one-file : OneFile
  one-file bytes config other entries others head_lines other_lines stands other_stands a b =
      let behind = first-same _ _ (sym (head-apart a.lines (entry_lines 1 entries ++ a.torn)) ∙ sym a.parts ∙ b.parts ∙ head-apart b.lines (entry_lines 1 others ++ b.torn)) in
      let t = one-head a.lines b.lines _ _ a.are b.are behind in (
        one-config config other (reading (lines_of a.lines)) a.read (ap (λ (ls : List (List ℕ)). reading (lines_of ls)) t.0 ∙ b.read),
        one-body 1 entries others a.torn b.torn (omega arith) a.fit b.fit a.one_line b.one_line t.1,
      )
