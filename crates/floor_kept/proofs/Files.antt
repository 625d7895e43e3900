-- What is read of a whole file.
use Rattle.std.proofs.Common.{◌≡◌, ◌==◌, ◌≤◌, ◌+◌, ◌&&◌, ℕ, Bool, true, false, not, List, [], ◌∷◌, ◌++◌, length, refl, sym, ◌∙◌, ap, arith, append_assoc, length-append, inl, inr, eqb-true}
use Rattle.std.specs.Prelude.{◌||◌, ◌⊎◌, codes}
use Rattle.std.specs.List.{list_any}
use Rattle.std.specs.Fmt.{decimal}
use Rattle.std.specs.Str.{IsValidUpTo}
use Rattle.hex.specs.Hex.{encode_lower}
use Rattle.floor_room.specs.Text.{mark_word, number_word, text_word}
use Rattle.floor_config.specs.Configuration.{Configuration}
use Rattle.floor_machine.specs.declared.event.Event.{Event}
use Rattle.floor_machine.specs.declared.event.Event.TheVariants.{Join, Message, Took, Leave, Revoke, Close, AddUser, AddFloor, SetChair, Say}
use Rattle.floor_kept.specs.Body.{IsBody, IsFirstBad, entry_lines, is_one_line, next_place}
use Rattle.floor_kept.specs.Entries.{entry_line, place_behind}
use Rattle.floor_kept.specs.File.{IsBadIn, IsFile, IsTextBefore}
use Rattle.floor_kept.specs.Head.{head_text, lines_of}
use Rattle.floor_kept.specs.declared.body.BadLine.{BadLine}
use Rattle.floor_kept.specs.declared.entry.Entry.{Entry}
use Rattle.floor_kept.specs.declared.entry.Entry.TheVariants.{Happened, Port, Word, End}
use Rattle.floor_kept.specs.steps.Cut.{IsHeadBefore}

both : (a b : Bool) → a ≡ true → b ≡ true → (a && b) ≡ true
both true b e h = h
both false b e h = cc e

left : (a b : Bool) → (a && b) ≡ true → a ≡ true
left true b e = refl
left false b e = e

right : (a b : Bool) → (a && b) ≡ true → b ≡ true
right true b e = e
right false b e = cc e

one_line_more : (xs ys : List ℕ) → is_one_line xs ≡ true → is_one_line ys ≡ true → is_one_line (xs ++ ys) ≡ true
one_line_more [] ys e h = h
one_line_more (x ∷ xs) ys e h = both (not (x == 10)) _ (left (not (x == 10)) _ e) (one_line_more xs ys (right (not (x == 10)) _ e) h)

-- bytes among which no line feed is
pub no_feed : (xs : List ℕ) → list_any (λ b. b == 10) xs ≡ false → is_one_line xs ≡ true
no_feed [] e = refl
no_feed (x ∷ xs) e = on (x == 10) (list_any (λ b. b == 10) xs) e (no_feed xs)
  where
    on : (a b : Bool) → (a || b) ≡ false → (b ≡ false → is_one_line xs ≡ true) → (not a && is_one_line xs) ≡ true
    on true b e next = cc e
    on false b e next = next e

-- a line among bytes, its line feed, and what is behind it
pub record Fed (xs : List ℕ) : Type 0 where
  pub line : List ℕ
  pub behind : List ℕ
  pub parts : xs ≡ line ++ (10 ∷ behind)
  pub one : is_one_line line ≡ true

fed_on : (x : ℕ) (xs : List ℕ) (b : Bool) → (x == 10) ≡ b → (b || list_any (λ c. c == 10) xs) ≡ true → (list_any (λ c. c == 10) xs ≡ true → Fed xs) → Fed (x ∷ xs)
fed_on x xs true e h next = record { line = []; behind = xs; parts = ap (λ (c : ℕ). c ∷ xs) (eqb-true x 10 e); one = refl }
fed_on x xs false e h next =
    let r = next h in
    record { line = x ∷ r.line; behind = r.behind; parts = ap (λ (l : List ℕ). x ∷ l) r.parts; one = both (not (x == 10)) _ (ap not e) r.one }

pub fed : (xs : List ℕ) → list_any (λ b. b == 10) xs ≡ true → Fed xs
fed [] e = cc e
fed (x ∷ xs) e = fed_on x xs (x == 10) refl e (fed xs)

-- the file that is read of a head and a body
pub whole_file : (bytes text rest behind : List ℕ) (config : Configuration) (entries : List Entry) (head_bytes head_lines body_stands stands : ℕ)
    → IsTextBefore bytes text rest → IsHeadBefore text config head_bytes head_lines behind → IsBody behind entries body_stands
    → is_one_line rest ≡ true → stands ≡ head_bytes + body_stands → IsFile bytes config entries head_lines stands
whole_file bytes text rest behind config entries head_bytes head_lines body_stands stands t (h, same) body one s = record {
  lines = h.lines;
  are = h.are;
  read = h.read;
  lines_are = h.lines_are;
  fit = body.fit;
  last = body.last;
  torn = body.torn ++ rest;
  parts = t.parts
      ∙ ap (λ (x : List ℕ). x ++ rest) (h.parts ∙ ap (λ (b : List ℕ). head_text h.lines ++ b) (same ∙ body.parts))
      ∙ append_assoc (head_text h.lines) (entry_lines 1 entries ++ body.torn) rest
      ∙ ap (λ (x : List ℕ). head_text h.lines ++ x) (append_assoc (entry_lines 1 entries) body.torn rest);
  one_line = one_line_more body.torn rest body.one_line one;
  stand = omega (arith, s, h.bytes_are, body.stand);
}

-- a bad line of the body
pub bad_of_body : (bytes text rest behind : List ℕ) (config : Configuration) (head_bytes head_lines : ℕ) (bad told : BadLine)
    → IsTextBefore bytes text rest → IsHeadBefore text config head_bytes head_lines behind → IsFirstBad behind bad
    → told.place ≡ bad.place → told.number ≡ head_lines + bad.number → IsBadIn bytes told
bad_of_body bytes text rest behind config head_bytes head_lines bad told t (h, same) f p n = record {
  lines = h.lines;
  are = h.are;
  before = f.before;
  fit = f.fit;
  last = f.last;
  line = f.line;
  behind = f.behind ++ rest;
  parts = t.parts
      ∙ ap (λ (x : List ℕ). x ++ rest) (h.parts ∙ ap (λ (b : List ℕ). head_text h.lines ++ b) (same ∙ f.parts))
      ∙ append_assoc (head_text h.lines) (entry_lines 1 f.before ++ (f.line ++ (10 ∷ f.behind))) rest
      ∙ ap (λ (x : List ℕ). head_text h.lines ++ x)
      (append_assoc (entry_lines 1 f.before) (f.line ++ (10 ∷ f.behind)) rest
      ∙ ap (λ (x : List ℕ). entry_lines 1 f.before ++ x) (append_assoc f.line (10 ∷ f.behind) rest));
  one_line = f.one_line;
  none = first_of f.none;
  place = p ∙ f.place;
  number = omega (arith, n, f.number, h.lines_are);
}
  where
    first_of : {A B C : Type 0} → A ⊎ B → A ⊎ (B ⊎ C)
    first_of (inl a) = inl a
    first_of (inr b) = inr (inl b)

none_is_longer : (line behind : List ℕ) → [] ≡ line ++ (10 ∷ behind) → ⊥
none_is_longer line behind e = omega (arith, ap length e, length-append line (10 ∷ behind))

valid_up_to : (bytes text rest line behind : List ℕ) → rest ≡ line ++ (10 ∷ behind) → (rest ≡ []) ⊎ IsValidUpTo bytes (length text) → IsValidUpTo bytes (length text)
valid_up_to bytes text rest line behind e (inl none) = absurd (none_is_longer line behind (sym none ∙ e))
valid_up_to bytes text rest line behind e (inr at) = at

-- a whole line with a byte that isn't UTF-8
pub bad_bytes : (bytes text rest behind : List ℕ) (config : Configuration) (entries : List Entry) (head_bytes head_lines body_stands : ℕ) (told : BadLine)
    → IsTextBefore bytes text rest → IsHeadBefore text config head_bytes head_lines behind → IsBody behind entries body_stands
    → list_any (λ b. b == 10) rest ≡ true → told.place ≡ next_place 1 entries → told.number ≡ head_lines + (length entries + 1) → IsBadIn bytes told
bad_bytes bytes text rest behind config entries head_bytes head_lines body_stands told t (h, same) body more p n =
    let f = fed rest more in
    let text_is : text ≡ head_text h.lines ++ (entry_lines 1 entries ++ body.torn) = h.parts ∙ ap (λ (b : List ℕ). head_text h.lines ++ b) (same ∙ body.parts) in
    record {
      lines = h.lines;
      are = h.are;
      before = entries;
      fit = body.fit;
      last = body.last;
      line = body.torn ++ f.line;
      behind = f.behind;
      parts = t.parts
          ∙ ap (λ (x : List ℕ). x ++ rest) text_is
          ∙ append_assoc (head_text h.lines) (entry_lines 1 entries ++ body.torn) rest
          ∙ ap (λ (x : List ℕ). head_text h.lines ++ x)
          (append_assoc (entry_lines 1 entries) body.torn rest
          ∙ ap (λ (x : List ℕ). entry_lines 1 entries ++ x)
          (ap (λ (r : List ℕ). body.torn ++ r) f.parts ∙ sym (append_assoc body.torn f.line (10 ∷ f.behind))));
      one_line = one_line_more body.torn f.line body.one_line f.one;
      none = inr (inr (record {
        at = length text;
        broken = valid_up_to bytes text rest f.line f.behind f.parts t.longest;
        from = omega (arith, ap length text_is, length-append (head_text h.lines) (entry_lines 1 entries ++ body.torn), length-append (entry_lines 1 entries) body.torn);
        to = omega (
          arith,
          ap length text_is,
          length-append (head_text h.lines) (entry_lines 1 entries ++ body.torn),
          length-append (entry_lines 1 entries) body.torn,
          length-append body.torn f.line,
        );
      }));
      place = p;
      number = omega (arith, n, h.lines_are);
    }

-- there are no more lines than bytes
lines_within : (ls : List (List ℕ)) → length ls ≤ length (lines_of ls)
lines_within [] = omega arith
lines_within (l ∷ ls) = omega (arith, lines_within ls, length-append l (10 ∷ lines_of ls))

some_behind : (xs ys : List ℕ) → 1 ≤ length ys → 1 ≤ length (xs ++ ys)
some_behind xs ys h = omega (arith, h, length-append xs ys)

event_is_some : (place : ℕ) (e : Event) → 1 ≤ length (entry_line place (Happened e))
event_is_some place (Join user) = some_behind (decimal place) (codes " join " ++ (decimal user ++ codes "\n")) (omega arith)
event_is_some place (Message n bytes) =
    some_behind (decimal place) (codes " message " ++ (decimal n ++ (codes " " ++ (encode_lower bytes ++ codes "\n")))) (omega arith)
event_is_some place (Took n k) = some_behind (decimal place) (codes " took " ++ (decimal n ++ (codes " " ++ (decimal k ++ codes "\n")))) (omega arith)
event_is_some place (Leave n) = some_behind (decimal place) (codes " leave " ++ (decimal n ++ codes "\n")) (omega arith)
event_is_some place (Revoke request) = some_behind (decimal place) (codes " revoke " ++ (decimal request ++ codes "\n")) (omega arith)
event_is_some place Close = some_behind (decimal place) (codes " close\n") (omega arith)
event_is_some place (AddUser user) =
    some_behind (decimal place)
    (codes " user " ++ (decimal user.id ++ (codes " " ++ (mark_word user.proxy ++ (codes " " ++ (text_word user.name ++ (codes " " ++ (text_word user.uri ++ codes "\n"))))))))
    (omega arith)
event_is_some place (AddFloor floor) =
    some_behind (decimal place)
    (codes " floor " ++ (decimal floor.id ++ (codes " " ++ (decimal floor.room ++ (codes " " ++ (number_word floor.chair ++ codes "\n"))))))
    (omega arith)
event_is_some place (SetChair floor chair) =
    some_behind (decimal place) (codes " chair " ++ (decimal floor ++ (codes " " ++ (number_word chair ++ codes "\n")))) (omega arith)
event_is_some place (Say user bytes) = some_behind (decimal place) (codes " say " ++ (decimal user ++ (codes " " ++ (encode_lower bytes ++ codes "\n")))) (omega arith)

entry_is_some : (place : ℕ) (entry : Entry) → 1 ≤ length (entry_line place entry)
entry_is_some place (Happened e) = event_is_some place e
entry_is_some place (Port user port) = omega arith
entry_is_some place (Word key value) = omega arith
entry_is_some place End = omega arith

entries_within : (place : ℕ) (entries : List Entry) → length entries ≤ length (entry_lines place entries)
entries_within place [] = omega arith
entries_within place (entry ∷ entries) =
    omega (
      arith,
      entry_is_some place entry,
      entries_within (place_behind place entry) entries,
      length-append (entry_line place entry) (entry_lines (place_behind place entry) entries),
    )

head_within : (text behind : List ℕ) (config : Configuration) (head_bytes head_lines : ℕ) → IsHeadBefore text config head_bytes head_lines behind
    → head_lines + length behind ≤ length text
head_within text behind config head_bytes head_lines (h, same) =
    omega (
      arith,
      ap length h.parts,
      ap length same,
      h.lines_are,
      lines_within h.lines,
      length-append (head_text h.lines) h.behind,
      length-append (codes "floorhub journal 1\n") (lines_of h.lines ++ codes "---\n"),
      length-append (lines_of h.lines) (codes "---\n"),
    )

text_within : (bytes text rest : List ℕ) → IsTextBefore bytes text rest → length text + length rest ≤ length bytes
text_within bytes text rest t = omega (arith, ap length t.parts, length-append text rest)

-- the number of a bad line of the body is within that of the bytes
pub number_within : (bytes text rest behind : List ℕ) (config : Configuration) (head_bytes head_lines : ℕ) (bad : BadLine)
    → IsTextBefore bytes text rest → IsHeadBefore text config head_bytes head_lines behind → IsFirstBad behind bad
    → head_lines + bad.number ≤ length bytes
number_within bytes text rest behind config head_bytes head_lines bad t h f =
    omega (
      arith,
      text_within bytes text rest t,
      head_within text behind config head_bytes head_lines h,
      f.number,
      entries_within 1 f.before,
      ap length f.parts,
      length-append (entry_lines 1 f.before) (f.line ++ (10 ∷ f.behind)),
      length-append f.line (10 ∷ f.behind),
    )

-- and that of the line behind the body
pub count_within : (bytes text rest behind : List ℕ) (config : Configuration) (entries : List Entry) (head_bytes head_lines body_stands : ℕ)
    → IsTextBefore bytes text rest → IsHeadBefore text config head_bytes head_lines behind → IsBody behind entries body_stands
    → list_any (λ b. b == 10) rest ≡ true → head_lines + (length entries + 1) ≤ length bytes
count_within bytes text rest behind config entries head_bytes head_lines body_stands t h body more =
    let f = fed rest more in
    omega (
      arith,
      text_within bytes text rest t,
      head_within text behind config head_bytes head_lines h,
      entries_within 1 entries,
      ap length body.parts,
      length-append (entry_lines 1 entries) body.torn,
      ap length f.parts,
      length-append f.line (10 ∷ f.behind),
    )
