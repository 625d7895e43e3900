-- A text is cut behind its first word.
use Rattle.std.proofs.Common.{◌≡◌, ◌≢◌, ℕ, suc, ◌+◌, ◌<◌, ◌&&◌, Bool, true, false, cond, not, List, [], ◌∷◌, ◌++◌, length, drop, take, filter, refl, sym, ◌∙◌, ap, arith, lit<, eqb-true, lt-ltb}
use Rattle.std.specs.Prelude.{Option, Some, None, MatchOption, ⊤}
use Rattle.std.specs.List.{after_first, before_first, list_all, position_or_len, prefix_len}
use Rattle.std.specs.Str.Pattern.{CutsPrefixes, FindsCharPrefix, IsTrimStartMatches}
use Rattle.std.proofs.lemmas.Bool.{false≢true}
use Rattle.std.proofs.Math.Seq.{drop-append-add, take-append_seam, take-length}
use Rattle.std.proofs.lemmas.List.Splits.{slice_split_first, slice_split_none}
use Rattle.std.proofs.lemmas.List.Sums.{fails_before_first}
use Rattle.std.proofs.lemmas.List.{append-nil, drop_all}
use Rattle.std.proofs.lemmas.Str.{encode_ascii}
use Rattle.std.proofs.lemmas.Str.Pattern.{drop_at_char}
use Rattle.floor_words.specs.Laws.{FirstWordsAreCutOff, IsCutOff, TextsBeginWithAWord, is_plain}
use Rattle.floor_words.specs.Words.{HasNoWord, IsCutWord, from_first_word, is_space, is_word, words}
use Rattle.floor_words.specs.declared.word.CutWord.{CutWord}

one_more : (n : ℕ) → 1 + n ≡ suc n
one_more n = omega arith

-- a space at the front is dropped, and nothing before another byte
skipped : (b : ℕ) (text : List ℕ) (t : Bool) → is_space b ≡ t → from_first_word (b ∷ text) ≡ cond t (from_first_word text) (b ∷ text)
skipped b text true e = rw e (ap (λ n. drop n (b ∷ text)) (one_more (prefix_len is_space text)))
skipped b text false e = rw e refl

-- spaces part nothing
same_words_on : (b : ℕ) (text : List ℕ) (t : Bool) → is_space b ≡ t → words text ≡ words (from_first_word text)
    → words (b ∷ text) ≡ words (cond t (from_first_word text) (b ∷ text))
same_words_on b text true e same = rw e same
same_words_on b text false e same = refl

same_words : (text : List ℕ) → words text ≡ words (from_first_word text)
same_words [] = refl
same_words (b ∷ text) =
    same_words_on b text (is_space b) refl (same_words text) ∙ ap words (sym (skipped b text (is_space b) refl))

-- what is left begins with no space
abbrev begins_well : List ℕ → Bool
begins_well [] = true
begins_well (b ∷ text) = not (is_space b)

begins_on : (b : ℕ) (text : List ℕ) (t : Bool) → is_space b ≡ t → begins_well (from_first_word text) ≡ true
    → begins_well (cond t (from_first_word text) (b ∷ text)) ≡ true
begins_on b text true e well = well
begins_on b text false e well = rw e refl

begins : (text : List ℕ) → begins_well (from_first_word text) ≡ true
begins [] = refl
begins (b ∷ text) = ap begins_well (skipped b text (is_space b) refl) ∙ begins_on b text (is_space b) refl (begins text)

not_true : (t : Bool) → not t ≡ true → t ≡ false
not_true true e = sym e
not_true false e = refl

-- a text that begins with no space is left as it is
left_alone : (text : List ℕ) → begins_well text ≡ true → from_first_word text ≡ text
left_alone [] e = refl
left_alone (b ∷ text) e = skipped b text false (not_true (is_space b) e)

-- what stands before the first space of a text that begins with none is a word
word_on : (b : ℕ) (text : List ℕ) (t : Bool) → is_space b ≡ t → not t ≡ true
    → is_word (take (cond (not t) (1 + position_or_len is_space text) 0) (b ∷ text)) ≡ true
word_on b text true e well = absurd (false≢true well)
word_on b text false e well = ap (λ n. is_word (take n (b ∷ text))) (one_more (position_or_len is_space text)) ∙ lt-ltb 0 _ (omega arith)

word_first : (text : List ℕ) → begins_well text ≡ true → 0 < length text → is_word (before_first is_space text) ≡ true
word_first [] e some = absurd (omega (arith, some))
word_first (b ∷ text) e some = word_on b text (is_space b) refl e

and_left : (a b : Bool) → (a && b) ≡ true → a ≡ true
and_left true b e = refl
and_left false b e = e

and_right : (a b : Bool) → (a && b) ≡ true → b ≡ true
and_right true b e = e
and_right false b e = absurd (false≢true e)

kept : (t : Bool) (w : List ℕ) (ws : List (List ℕ)) → t ≡ true → cond t (w ∷ ws) ws ≡ w ∷ ws
kept true w ws e = refl
kept false w ws e = absurd (cc e)

-- a text without a space is its one word
alone : (text : List ℕ) → begins_well text ≡ true → 0 < length text → position_or_len is_space text ≡ length text
    → (text ≡ before_first is_space text) × ([] ≡ after_first is_space text) × (words text ≡ text ∷ [])
alone text well some none =
    let first : text ≡ before_first is_space text = sym (take-length text) ∙ ap (λ n. take n text) (sym none) in (
      first,
      sym (drop_all (position_or_len is_space text + 1) text (omega (arith, none))),
      ap (filter is_word) (slice_split_none is_space text
          (λ k d below. fails_before_first is_space text k d (omega (arith, none, below))))
          ∙ kept (is_word text) text [] (ap is_word first ∙ word_first text well some),
    )

-- the cut of a text that has no space
pub cut_whole : (text start : List ℕ) (cut : CutWord) → start ≡ from_first_word text → 0 < length start
    → position_or_len is_space start ≡ length start → cut.word.now ≡ start → cut.rest.now ≡ [] → IsCutWord text cut
cut_whole text start cut same some none word rest =
    let well = ap begins_well same ∙ begins text in
    let (first, behind, one) = alone start well some none in
    record {
      word = word ∙ first ∙ ap (before_first is_space) same;
      rest = rest ∙ behind ∙ ap (after_first is_space) same;
      some = ap is_word (word ∙ first) ∙ word_first start well some;
      words_are = same_words text ∙ ap words (sym same) ∙ one ∙ rw (word, rest) refl;
    }

-- the cut of a text at its first space
pub cut_at : (text start : List ℕ) (cut : CutWord) → start ≡ from_first_word text → 0 < length start
    → position_or_len is_space start < length start → cut.word.now ≡ before_first is_space start
    → cut.rest.now ≡ after_first is_space start → IsCutWord text cut
cut_at text start cut same some inside word rest =
    let well = ap begins_well same ∙ begins text in
    let is = word_first start well some in
    record {
      word = word ∙ ap (before_first is_space) same;
      rest = rest ∙ ap (after_first is_space) same;
      some = ap is_word word ∙ is;
      words_are =
          same_words text ∙ ap words (sym same) ∙ ap (filter is_word) (slice_split_first is_space start 0 inside)
          ∙ kept (is_word (before_first is_space start)) _ _ is ∙ rw (word, rest) refl;
    }

-- a text of which nothing is left has no word
pub no_word : (text start : List ℕ) → start ≡ from_first_word text → length start ≡ 0 → HasNoWord text
no_word text [] same e =
    record {
      from = sym same;
      first = ap (before_first is_space) (sym same);
      behind = ap (after_first is_space) (sym same);
      words_are = same_words text ∙ ap words (sym same);
    }
no_word text (b ∷ start) same e = absurd (omega (arith, e))

-- spaces that were cut off the front, one after another
cuts : (ns text left : List ℕ) → CutsPrefixes (FindsCharPrefix 32) text ns left → from_first_word left ≡ from_first_word text
cuts [] text left e = ap from_first_word e
cuts (n ∷ ns) text left (m, before, at, e) =
    ap from_first_word e ∙ sym (skipped 32 (drop n m) true refl)
    ∙ ap from_first_word (sym (drop_at_char 32 m 0 n at (lit< tt))) ∙ cuts ns text m before

not_space : (b : ℕ) (t : Bool) → is_space b ≡ t → (b ≢ 32) → not t ≡ true
not_space b true e other = absurd (other (eqb-true b 32 e))
not_space b false e other = refl

trimmed : (left : List ℕ) (o : Option ℕ) → FindsCharPrefix 32 left o → MatchOption o ⊤ (λ n. n ≡ 0) → begins_well left ≡ true
trimmed left (Some n) at e = absurd (omega (arith, ap length (drop_at_char 32 left 0 n at (lit< tt)), ap (λ k. length (drop k left)) e))
trimmed [] None none e = refl
trimmed (b ∷ left) None none e = not_space b (is_space b) refl (λ h. none left (ap (λ x. x ∷ left) h ∙ ap (λ l. l ++ left) (sym (encode_ascii 32 (lit< tt)))))

-- what `trim_start_matches` leaves
pub from_trimmed : (text left : List ℕ) → IsTrimStartMatches (FindsCharPrefix 32) text left → left ≡ from_first_word text
from_trimmed text left ((ns, cut), (o, found, e)) = sym (left_alone left (trimmed left o found e)) ∙ cuts ns text left cut

-- a word that is plain begins with no space
begins_plain : (w rest : List ℕ) → is_plain w ≡ true → begins_well (w ++ rest) ≡ true
begins_plain [] rest e = absurd (false≢true e)
begins_plain (b ∷ w) rest e = and_left (not (is_space b)) _ (and_right (is_word (b ∷ w)) _ e)

first_space_on : (b n : ℕ) (t : Bool) → t ≡ true → cond t (1 + n) 0 ≡ 1 + n
first_space_on b n t e = rw e refl

-- no byte of a plain word is a space, and so its first space stands behind it
first_space : (w rest : List ℕ) → list_all (λ b. not (is_space b)) w ≡ true
    → position_or_len is_space (w ++ rest) ≡ length w + position_or_len is_space rest
first_space [] rest e = omega arith
first_space (b ∷ w) rest e =
    first_space_on b (position_or_len is_space (w ++ rest)) (not (is_space b)) (and_left (not (is_space b)) _ e)
    ∙ ap (λ n. 1 + n) (first_space w rest (and_right (not (is_space b)) _ e)) ∙ omega arith

cut_off : (w : List ℕ) → is_plain w ≡ true → IsCutOff w
cut_off w plain =
    let clear = and_right (is_word w) _ plain in
    let same : (rest : List ℕ) → from_first_word (w ++ rest) ≡ w ++ rest = λ rest. left_alone (w ++ rest) (begins_plain w rest plain) in
    let ends : from_first_word w ≡ w = ap from_first_word (sym (append-nil w)) ∙ same [] ∙ append-nil w in
    let whole : position_or_len is_space w ≡ length w = ap (position_or_len is_space) (sym (append-nil w)) ∙ first_space w [] clear ∙ omega arith in
    let here : (rest : List ℕ) → position_or_len is_space (w ++ (32 ∷ rest)) ≡ length w = λ rest. first_space w (32 ∷ rest) clear ∙ omega arith in
    record {
      alone = ap (before_first is_space) ends ∙ ap (λ n. take n w) whole ∙ take-length w;
      nothing_behind = ap (after_first is_space) ends ∙ drop_all (position_or_len is_space w + 1) w (omega (arith, whole));
      first = λ rest. ap (before_first is_space) (same (32 ∷ rest)) ∙ ap (λ n. take n (w ++ (32 ∷ rest))) (here rest) ∙ take-append_seam w (32 ∷ rest);
      rest_behind = λ rest. ap (after_first is_space) (same (32 ∷ rest)) ∙ ap (λ n. drop (n + 1) (w ++ (32 ∷ rest))) (here rest) ∙ drop-append-add w (32 ∷ rest) 1;
    }

pub first_words_are_cut_off : FirstWordsAreCutOff
first_words_are_cut_off w plain = cut_off w plain

pub texts_begin_with_a_word : TextsBeginWithAWord
texts_begin_with_a_word text =
    let same = left_alone (from_first_word text) (begins text) in
    record { same = same; behind_a_space = skipped 32 (from_first_word text) true refl ∙ same }
