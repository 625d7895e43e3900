-- How a head is cut, line by line, and what is read of it.
use Rattle.std.proofs.Common.{◌≡◌, ◌<◌, ◌≤◌, ◌+◌, ◌-◌, ◌&&◌, ℕ, Bool, true, false, not, List, [], ◌∷◌, ◌++◌, length, refl, sym, ◌∙◌, ap, subst, arith, append_assoc, length-append}
use Rattle.std.specs.Prelude.{Some, Ok, codes}
use Rattle.std.specs.List.{after_first, before_first, list_all, position_or_len}
use Rattle.std.specs.Str.{bytes_eq}
use Rattle.std.proofs.lemmas.List.{append-nil, append_cancel_left, append_cancel_right}
use Rattle.std.proofs.lemmas.Slice.Eq.{bytes_eq-Decides}
use Rattle.toml.specs.Data.{Members, members_depth}
use Rattle.toml.specs.Parse.{parse_document}
use Rattle.floor_config.specs.Configuration.{Configuration}
use Rattle.floor_config.specs.Reading.{conferences_of, of_document, reading}
use Rattle.floor_kept.specs.Body.{is_one_line}
use Rattle.floor_kept.specs.Head.{IsHead, IsHeadFault, IsHeadOf, IsUndivided, divider, document_of, first_line, head_text, is_table_line, lines_of}
use Rattle.floor_kept.specs.declared.head.HeadFault.{HeadFault}
use Rattle.floor_kept.specs.declared.head.HeadFault.TheVariants.{FirstLine, Divider, Refused, Conferences, Memory}
use Rattle.floor_kept.specs.steps.Cut.{IsCut, IsHeadBefore, IsNotOne, IsUncut, Passed}
use Rattle.floor_kept.proofs.Cuts.{is_feed, line_is_one, parts, rest_is_one}

both : (a b : Bool) → a ≡ true → b ≡ true → (a && b) ≡ true
both true b e h = h
both false b e h = cc e

all_more : (ls : List (List ℕ)) (l : List ℕ) → list_all is_table_line ls ≡ true → is_table_line l ≡ true → list_all is_table_line (ls ++ l ∷ []) ≡ true
all_more [] l e h = both (is_table_line l) true h refl
all_more (k ∷ ls) l e h = both (is_table_line k) _ (left (is_table_line k) _ e) (all_more ls l (right (is_table_line k) _ e) h)
  where
    left : (a b : Bool) → (a && b) ≡ true → a ≡ true
    left true b e = refl
    left false b e = e

    right : (a b : Bool) → (a && b) ≡ true → b ≡ true
    right true b e = e
    right false b e = cc e

lines_more : (ls : List (List ℕ)) (l : List ℕ) → lines_of (ls ++ l ∷ []) ≡ lines_of ls ++ (l ++ codes "\n")
lines_more [] l = refl
lines_more (k ∷ ls) l = ap (λ (x : List ℕ). k ++ (10 ∷ x)) (lines_more ls l) ∙ sym (append_assoc k (10 ∷ lines_of ls) (l ++ codes "\n"))

-- no line was passed
pub passed_none : (text table rest : List ℕ) → table ≡ [] → rest ≡ text → Passed text table 2 rest
passed_none text table rest none same = record { lines = []; are = refl; table_is = none; parts = sym same; count_is = refl }

other_line : (line : List ℕ) → is_one_line line ≡ true → bytes_eq line (codes "---") ≡ false → is_table_line line ≡ true
other_line line one other = both (is_one_line line) _ one (ap not other)

-- one line more
pub passed_more : (text table more : List ℕ) (count next : ℕ) (rest line behind : List ℕ) → Passed text table count rest
    → line ≡ before_first is_feed rest → behind ≡ after_first is_feed rest → position_or_len is_feed rest < length rest
    → bytes_eq line (codes "---") ≡ false → more ≡ (table ++ line) ++ codes "\n" → next ≡ count + 1 → Passed text more next behind
passed_more text table more count next rest line behind p l b within other grown n = record {
  lines = p.lines ++ line ∷ [];
  are = all_more p.lines line p.are (other_line line (line_is_one rest line l) other);
  table_is = grown ∙ append_assoc table line (codes "\n") ∙ ap (λ (x : List ℕ). x ++ (line ++ codes "\n")) p.table_is ∙ sym (lines_more p.lines line);
  parts = p.parts
      ∙ ap (λ (x : List ℕ). lines_of p.lines ++ x) (parts rest line behind l b within ∙ sym (append_assoc line (codes "\n") behind))
      ∙ sym (append_assoc (lines_of p.lines) (line ++ codes "\n") behind)
      ∙ ap (λ (x : List ℕ). x ++ behind) (sym (lines_more p.lines line));
  count_is = omega (arith, n, p.count_is, length-append p.lines (line ∷ []));
}

-- the divider
pub cut_here : (text table : List ℕ) (count : ℕ) (rest line behind : List ℕ) → Passed text table count rest
    → line ≡ before_first is_feed rest → behind ≡ after_first is_feed rest → position_or_len is_feed rest < length rest
    → bytes_eq line (codes "---") ≡ true → IsCut text table count behind
cut_here text table count rest line behind p l b within here = record {
  lines = p.lines;
  are = p.are;
  table_is = p.table_is;
  parts = p.parts ∙ ap (λ (x : List ℕ). lines_of p.lines ++ x) (parts rest line behind l b within ∙ ap (λ (k : List ℕ). k ++ (10 ∷ behind)) ((bytes_eq-Decides line (codes "---")).0 here));
  count_is = p.count_is;
}

-- no line is it
pub uncut : (text table : List ℕ) (count : ℕ) (rest : List ℕ) → Passed text table count rest → position_or_len is_feed rest ≡ length rest → IsUncut text
uncut text table count rest p none = record { lines = p.lines; are = p.are; torn = rest; one_line = rest_is_one rest none; parts = p.parts }

-- what is left is shorter, and one line more is counted
pub counted_more : (text rest line behind : List ℕ) (count next : ℕ) → count + length rest ≤ length text + 2
    → line ≡ before_first is_feed rest → behind ≡ after_first is_feed rest → position_or_len is_feed rest < length rest → next ≡ count + 1 → next + length behind ≤ length text + 2
counted_more text rest line behind count next h l b within n = omega (arith, h, n, ap length (parts rest line behind l b within), length-append line (10 ∷ behind))

divided : (text rest table behind : List ℕ) (count : ℕ) → text ≡ first_line ++ rest → (cut : IsCut rest table count behind) → text ≡ head_text cut.lines ++ behind
divided text rest table behind count e cut =
    e
    ∙ ap (λ (x : List ℕ). first_line ++ x) (cut.parts ∙ sym (append_assoc (lines_of cut.lines) divider behind))
    ∙ sym (append_assoc first_line (lines_of cut.lines ++ divider) behind)

-- the head of a text
pub head_is : (text rest table behind : List ℕ) (count bytes lines : ℕ) (config : Configuration) → text ≡ first_line ++ rest → IsCut rest table count behind
    → reading table ≡ Ok (config ∷ []) → bytes ≡ length text - length behind → lines ≡ count → IsHead text config bytes lines
head_is text rest table behind count bytes lines config e cut read b n =
    let whole = divided text rest table behind count e cut in
    record {
      lines = cut.lines;
      are = cut.are;
      behind = behind;
      parts = whole;
      read = ap reading (sym cut.table_is) ∙ read;
      bytes_are = omega (arith, b, ap length whole, length-append (head_text cut.lines) behind);
      lines_are = omega (arith, n, cut.count_is);
    }

-- the head of a text, and what stands behind it
pub head_before : (text rest table behind : List ℕ) (count bytes lines : ℕ) (config : Configuration) → text ≡ first_line ++ rest → IsCut rest table count behind
    → reading table ≡ Ok (config ∷ []) → bytes ≡ length text - length behind → lines ≡ count → IsHeadBefore text config bytes lines behind
head_before text rest table behind count bytes lines config e cut read b n =
    let whole = divided text rest table behind count e cut in (
      record {
        lines = cut.lines;
        are = cut.are;
        behind = behind;
        parts = whole;
        read = ap reading (sym cut.table_is) ∙ read;
        bytes_are = omega (arith, b, ap length whole, length-append (head_text cut.lines) behind);
        lines_are = omega (arith, n, cut.count_is);
      },
      refl,
    )

-- what stands behind is within the text
pub behind_within : (text rest table behind : List ℕ) (count : ℕ) → text ≡ first_line ++ rest → IsCut rest table count behind → length behind ≤ length text
behind_within text rest table behind count e cut =
    omega (arith, ap length (divided text rest table behind count e cut), length-append (head_text cut.lines) behind)

-- a text without a divider
pub undivided : (text rest : List ℕ) → text ≡ first_line ++ rest → IsUncut rest → IsUndivided text
undivided text rest e cut = record {
  lines = cut.lines;
  are = cut.are;
  torn = cut.torn;
  one_line = cut.one_line;
  parts = e ∙ ap (λ (x : List ℕ). first_line ++ x) cut.parts;
}

-- a table that is no configuration of one conference
pub head_fault : (text rest table behind : List ℕ) (count : ℕ) (fault : HeadFault) → text ≡ first_line ++ rest → IsCut rest table count behind
    → IsNotOne table fault → IsHeadFault text fault
head_fault text rest table behind count FirstLine e cut h = absurd h
head_fault text rest table behind count Divider e cut h = absurd h
head_fault text rest table behind count (Refused fault) e cut h = (
  cut.lines,
  record { are = cut.are; behind = behind; parts = divided text rest table behind count e cut },
  rw (← cut.table_is) h,
)
head_fault text rest table behind count Conferences e cut (configs, read, other) = (
  cut.lines,
  configs,
  record { are = cut.are; behind = behind; parts = divided text rest table behind count e cut },
  ap reading (sym cut.table_is) ∙ read,
  other,
)
head_fault text rest table behind count Memory e cut h = tt

nothing_behind : (behind : List ℕ) (n : ℕ) → n + length behind ≡ n → behind ≡ []
nothing_behind [] n e = refl
nothing_behind (b ∷ behind) n e = absurd (omega (arith, e))

-- the head that was written and is read back
pub written_head : (conference : Members) (document : Members) (text table : List ℕ) (config : Configuration) (bytes lines : ℕ) → document ≡ document_of conference
    → text ≡ first_line ++ (table ++ divider) → (members_depth document ≤ 80 → parse_document table ≡ Some document)
    → IsHead text config bytes lines → bytes ≡ length text → IsHeadOf conference text config
written_head conference document text table config bytes lines same printed back head all =
    let none : head.behind ≡ [] = nothing_behind head.behind (length (head_text head.lines)) (omega (arith, all, head.bytes_are, ap length head.parts, length-append (head_text head.lines) head.behind)) in
    let whole : text ≡ head_text head.lines = head.parts ∙ ap (λ (x : List ℕ). head_text head.lines ++ x) none ∙ append-nil (head_text head.lines) in
    let tables : table ≡ lines_of head.lines =
    append_cancel_right table (lines_of head.lines) divider (append_cancel_left first_line (table ++ divider) (lines_of head.lines ++ divider) (sym printed ∙ whole)) in
    record {
      lines = head.lines;
      are = head.are;
      parts = whole;
      read = head.read;
      same = λ few. ap conferences_of (sym same)
          ∙ ap of_document (sym (back (subst (λ (m : Members). members_depth m ≤ 80) (sym same) few)))
          ∙ ap reading tables
          ∙ head.read;
    }
