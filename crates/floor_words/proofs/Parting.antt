-- Words that single spaces part are read back.
use Rattle.std.proofs.Common.{◌≡◌, ℕ, ◌&&◌, Bool, true, false, cond, not, List, [], ◌∷◌, filter, refl, sym, ◌∙◌, ap}
use Rattle.std.specs.List.{All, join_with_byte, list_all, onto_first, slice_split}
use Rattle.std.proofs.lemmas.List.Elements.{All-weaker}
use Rattle.std.proofs.lemmas.List.Splits.{slice_split_none, slice_split_at}
use Rattle.std.proofs.lemmas.List.Sums.{AllPass-from_list_all}
use Rattle.floor_words.specs.Laws.{WordsArePlain, WordsAreReadBack, is_plain}
use Rattle.floor_words.specs.Words.{is_space, is_word, words}

and_left : (a b : Bool) → (a && b) ≡ true → a ≡ true
and_left true b e = refl
and_left false b e = e

and_right : (a b : Bool) → (a && b) ≡ true → b ≡ true
and_right true b e = e
and_right false b e = absurd (cc e)

not_true : (b : Bool) → not b ≡ true → b ≡ false
not_true true e = sym e
not_true false e = refl

-- a plain word has no space
no_space : (w : List ℕ) → is_plain w ≡ true → All (λ b. is_space b ≡ false) w
no_space w e = All-weaker (λ b. not (is_space b) ≡ true) (λ b. is_space b ≡ false) (λ b k. not_true (is_space b) k) w (AllPass-from_list_all (λ b. not (is_space b)) w (and_right (is_word w) _ e))

-- a piece that is a word is kept
kept : (b : Bool) (w : List ℕ) (ws : List (List ℕ)) → b ≡ true → cond b (w ∷ ws) ws ≡ w ∷ ws
kept true w ws e = refl
kept false w ws e = absurd (cc e)

pub words_are_read_back : WordsAreReadBack
words_are_read_back [] e = refl
words_are_read_back (w ∷ []) e =
    let plain = and_left (is_plain w) _ e in
    ap (filter is_word) (slice_split_none is_space w (no_space w plain)) ∙ kept (is_word w) w [] (and_left (is_word w) _ plain)
words_are_read_back (w ∷ v ∷ ws) e =
    let plain = and_left (is_plain w) _ e in
    ap (filter is_word) (slice_split_at is_space w 32 (join_with_byte 32 (v ∷ ws)) (no_space w plain) refl)
    ∙ kept (is_word w) w (words (join_with_byte 32 (v ∷ ws))) (and_left (is_word w) _ plain)
    ∙ ap (λ rest. w ∷ rest) (words_are_read_back (v ∷ ws) (and_right (is_plain w) _ e))

-- no piece has a space
abbrev are_clear : List (List ℕ) → Bool
are_clear pieces = list_all (λ piece. list_all (λ b. not (is_space b)) piece) pieces

split_on : (b : ℕ) (t : Bool) (pieces : List (List ℕ)) → is_space b ≡ t → are_clear pieces ≡ true
    → are_clear (cond t ([] ∷ pieces) (onto_first b pieces)) ≡ true
split_on b true pieces e clear = clear
split_on b false [] e clear = rw e refl
split_on b false (piece ∷ pieces) e clear = rw e clear

clear_pieces : (line : List ℕ) → are_clear (slice_split is_space line) ≡ true
clear_pieces [] = refl
clear_pieces (b ∷ line) = split_on b (is_space b) (slice_split is_space line) refl (clear_pieces line)

-- of clear pieces, those that are words are plain
keep_on : (t : Bool) (piece : List ℕ) (ws : List (List ℕ)) → is_word piece ≡ t
    → list_all (λ b. not (is_space b)) piece ≡ true → list_all is_plain ws ≡ true
    → list_all is_plain (cond t (piece ∷ ws) ws) ≡ true
keep_on true piece ws e clear plain = rw (e, clear) plain
keep_on false piece ws e clear plain = plain

kept_plain : (pieces : List (List ℕ)) → are_clear pieces ≡ true → list_all is_plain (filter is_word pieces) ≡ true
kept_plain [] e = refl
kept_plain (piece ∷ pieces) e =
    keep_on (is_word piece) piece (filter is_word pieces) refl (and_left (list_all (λ b. not (is_space b)) piece) _ e)
    (kept_plain pieces (and_right (list_all (λ b. not (is_space b)) piece) _ e))

pub words_are_plain : WordsArePlain
words_are_plain line = kept_plain (slice_split is_space line) (clear_pieces line)
