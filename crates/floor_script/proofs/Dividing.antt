-- The first divider among the lines of a text.
use Rattle.std.proofs.Common.{◌≡◌, ℕ, zero, suc, ◌+◌, ◌-◌, ◌<◌, Bool, true, false, cond, List, [], ◌∷◌, ◌++◌, length, take, take-append-drop, refl, sym, ◌∙◌, ap, subst, arith, append_assoc, append-nil, length-append, lt-ltb, le-ltb, Some, None}
use Rattle.std.specs.Prelude.{Option, MatchOption, if◌then◌else◌, not, nat_lt}
use Rattle.std.specs.List.{after_first, position_or_len}
use Rattle.std.specs.Option.{option_map}
use Rattle.std.specs.Str.Lines.{lines}
use Rattle.std.specs.Str.Pattern.{FindsTextSuffix, StripsSuffix}
use Rattle.floor_words.specs.Lines.{behind, has_line_feed, is_line_feed}
use Rattle.floor_script.specs.Script.{behind_lines, configuration_of, has_divider, is_divider, lines_before, lines_passed, script_of, until_line}
use denote.Ref.{Bor}

-- So many lines of a text were passed, none of which is the divider, and the rest is left.
pub record Passed (text : List ℕ) (count : ℕ) (rest : List ℕ) : Type 0 where
  pub passed : List (List ℕ)
  pub lines_are : lines text ≡ passed ++ lines rest
  pub count_is : length passed ≡ count
  pub undivided : (more : List (List ℕ)) → position_or_len is_divider (passed ++ more) ≡ length passed + position_or_len is_divider more
  pub rest_is : rest ≡ behind_lines count text

behind_last : (count : ℕ) (text : List ℕ) → behind_lines count (behind text) ≡ behind (behind_lines count text)
behind_last zero text = refl
behind_last (suc count) text = behind_last count (behind text)

-- no line was passed
pub passed_none : (text rest : List ℕ) (count : ℕ) → count ≡ 0 → rest ≡ text → Passed text count rest
passed_none text rest count z e = subst (λ (n : ℕ). Passed text n rest) (sym z) (record {
  passed = [];
  lines_are = ap lines (sym e);
  count_is = refl;
  undivided = λ more. omega arith;
  rest_is = e;
})

not_divider : (line : List ℕ) (more : List (List ℕ)) (b : Bool) → b ≡ false → cond (not b) (1 + position_or_len is_divider more) 0 ≡ 1 + position_or_len is_divider more
not_divider line more false e = refl
not_divider line more true e = cc

-- one line more, which isn't the divider
pub passed_more : (text : List ℕ) (count : ℕ) (rest line left : List ℕ) → Passed text count rest → lines rest ≡ line ∷ lines left → left ≡ behind rest → is_divider line ≡ false →
    Passed text (count + 1) left
passed_more text count rest line left p e b other = record {
  passed = p.passed ++ line ∷ [];
  lines_are = p.lines_are ∙ ap (λ (l : List (List ℕ)). p.passed ++ l) e ∙ sym (append_assoc p.passed (line ∷ []) (lines left));
  count_is = omega (arith, length-append p.passed (line ∷ []), p.count_is);
  undivided = λ more. step more;
  rest_is = b ∙ ap behind p.rest_is ∙ sym (behind_last count text) ∙ ap (λ (n : ℕ). behind_lines n text) next;
}
  where
    next : suc count ≡ count + 1
    next = omega arith

    step : (more : List (List ℕ)) → position_or_len is_divider ((p.passed ++ line ∷ []) ++ more) ≡ length (p.passed ++ line ∷ []) + position_or_len is_divider more
    step more =
        let long : length (p.passed ++ line ∷ []) ≡ length p.passed + 1 = length-append p.passed (line ∷ []) in
        let one : position_or_len is_divider (line ∷ more) ≡ 1 + position_or_len is_divider more = not_divider line more (is_divider line) other in
        let here : position_or_len is_divider (p.passed ++ (line ∷ more)) ≡ length p.passed + position_or_len is_divider (line ∷ more) = p.undivided (line ∷ more) in
        ap (position_or_len is_divider) (append_assoc p.passed (line ∷ []) more) ∙ omega (arith, long, one, here)

-- the divider comes first
is_divider_first : (line : List ℕ) (more : List (List ℕ)) (b : Bool) → b ≡ true → cond (not b) (1 + position_or_len is_divider more) 0 ≡ 0
is_divider_first line more true e = refl
is_divider_first line more false e = cc

-- no line is the divider
pub divided_none : (text : List ℕ) (count : ℕ) (rest : List ℕ) → Passed text count rest → rest ≡ [] → has_divider text ≡ false
divided_none text count rest p e =
    let all : lines text ≡ p.passed ++ [] = p.lines_are ∙ ap (λ (r : List ℕ). p.passed ++ lines r) e in
    let at : position_or_len is_divider (p.passed ++ []) ≡ length p.passed + 0 = p.undivided [] in
    let long : length (p.passed ++ []) ≡ length p.passed = ap length (append-nil p.passed) in
    ap (λ (l : List (List ℕ)). nat_lt (position_or_len is_divider l) (length l)) all
    ∙ le-ltb (position_or_len is_divider (p.passed ++ [])) (length (p.passed ++ [])) (omega (arith, at, long))

-- this line is the first divider
pub divided_here : (text : List ℕ) (count : ℕ) (rest line left : List ℕ) → Passed text count rest → lines rest ≡ line ∷ lines left → is_divider line ≡ true →
    (has_divider text ≡ true) × (lines_before text ≡ count)
divided_here text count rest line left p e is =
    let all : lines text ≡ p.passed ++ (line ∷ lines left) = p.lines_are ∙ ap (λ (l : List (List ℕ)). p.passed ++ l) e in
    let first : position_or_len is_divider (line ∷ lines left) ≡ 0 = is_divider_first line (lines left) (is_divider line) is in
    let at : position_or_len is_divider (p.passed ++ (line ∷ lines left)) ≡ length p.passed + position_or_len is_divider (line ∷ lines left) = p.undivided (line ∷ lines left) in
    let long : length (p.passed ++ (line ∷ lines left)) ≡ length p.passed + length (line ∷ lines left) = length-append p.passed (line ∷ lines left) in
    let some : 0 < length (line ∷ lines left) = omega arith in (
      ap (λ (l : List (List ℕ)). nat_lt (position_or_len is_divider l) (length l)) all
          ∙ lt-ltb (position_or_len is_divider (p.passed ++ (line ∷ lines left))) (length (p.passed ++ (line ∷ lines left))) (omega (arith, at, first, long, some)),
      ap (position_or_len is_divider) all ∙ omega (arith, at, first, p.count_is),
    )

pick : (b : Bool) (text : List ℕ) → (front : List ℕ) × (text ≡ front ++ cond b (after_first is_line_feed text) [])
pick true text = (take (position_or_len is_line_feed text + 1) text, sym (take-append-drop (position_or_len is_line_feed text + 1) text))
pick false text = (text, sym (append-nil text))

-- what stands behind lines ends the text
ends_text : (count : ℕ) (text : List ℕ) → (front : List ℕ) × (text ≡ front ++ behind_lines count text)
ends_text zero text = ([], refl)
ends_text (suc count) text =
    let first = pick (has_line_feed text) text in
    let more = ends_text count (behind text) in
    (first.0 ++ more.0, first.1 ∙ ap (λ (l : List ℕ). first.0 ++ l) more.1 ∙ sym (append_assoc first.0 more.0 (behind_lines count (behind text))))

stripped : (text rest : List ℕ) (r : Option (Bor (List ℕ))) (front : List ℕ) → text ≡ front ++ rest →
    MatchOption r (FindsTextSuffix rest text None) (λ x. StripsSuffix (FindsTextSuffix rest) text x.now) → option_map (λ c. c.now) r ≡ Some (take (length text - length rest) text)
stripped text rest None front e h = absurd (h front e)
stripped text rest (Some x) front e h = ap (λ (l : List ℕ). Some l) (h.2 ∙ ap (λ (n : ℕ). take (length text - n) text) h.1.0)

if_true : {A : Type 0} (b : Bool) (x y : A) → b ≡ true → (if b then x else y) ≡ x
if_true true x y e = refl
if_true false x y e = cc

if_false : {A : Type 0} (b : Bool) (x y : A) → b ≡ false → (if b then x else y) ≡ y
if_false false x y e = refl
if_false true x y e = cc

-- A script was found.
pub record Found (text : List ℕ) (front : Option (List ℕ)) (read : ℕ) (rest : List ℕ) : Type 0 where
  pub configuration : front ≡ configuration_of text
  pub lines : rest ≡ script_of text
  pub numbers : read ≡ lines_passed text

-- the whole text
pub found_none : (text : List ℕ) (count : ℕ) (left whole : List ℕ) (read : ℕ) → Passed text count left → left ≡ [] → whole ≡ text → read ≡ 0 → Found text None read whole
found_none text count left whole read p e w z =
    let none : has_divider text ≡ false = divided_none text count left p e in
    let passed : lines_passed text ≡ 0 = if_false (has_divider text) (suc (lines_before text)) 0 none in record {
      configuration = sym (if_false (has_divider text) (Some (until_line (lines_before text) text)) None none);
      lines = w ∙ ap (λ (n : ℕ). behind_lines n text) (sym passed);
      numbers = z ∙ sym passed;
    }

-- what stands behind the divider
pub found_here : (text : List ℕ) (count : ℕ) (rest line left : List ℕ) (r : Option (Bor (List ℕ))) → Passed text count rest → lines rest ≡ line ∷ lines left → left ≡ behind rest →
    is_divider line ≡ true → MatchOption r (FindsTextSuffix rest text None) (λ x. StripsSuffix (FindsTextSuffix rest) text x.now) → Found text (option_map (λ c. c.now) r) (count + 1) left
found_here text count rest line left r p e b is h =
    let here = divided_here text count rest line left p e is in
    let passed : lines_passed text ≡ suc count = if_true (has_divider text) (suc (lines_before text)) 0 here.0 ∙ ap suc here.1 in
    let ends = ends_text count text in
    let next : count + 1 ≡ suc count = omega arith in record {
      configuration = stripped text rest r ends.0 (ends.1 ∙ ap (λ (l : List ℕ). ends.0 ++ l) (sym p.rest_is)) h
          ∙ ap (λ (l : List ℕ). Some (take (length text - length l) text)) (p.rest_is ∙ ap (λ (n : ℕ). behind_lines n text) (sym here.1))
          ∙ sym (if_true (has_divider text) (Some (until_line (lines_before text) text)) None here.0);
      lines = b ∙ ap behind p.rest_is ∙ sym (behind_last count text) ∙ ap (λ (n : ℕ). behind_lines n text) (sym passed);
      numbers = next ∙ sym passed;
    }
