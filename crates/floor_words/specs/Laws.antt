-- What is written is read back.
use Rattle.std.specs.Prelude.{◌≡◌, ℕ, ◌&&◌, ◌<◌, ◌^◌, Bool, not, IsTrue, Some, List, [], ◌∷◌, ◌++◌}
use Rattle.std.specs.Fmt.{decimal}
use Rattle.std.specs.List.{join_with_byte, list_all}
use Rattle.floor_words.specs.Words.{behind_word, first_word, from_first_word, is_space, is_word, number, words}

-- the bytes can stand as one word of a line: there are some, and no space is among them
abbrev pub is_plain : List ℕ → Bool
is_plain word = is_word word && list_all (λ b. not (is_space b)) word

-- each word of a line is plain
abbrev pub WordsArePlain : Type 0
WordsArePlain = (line : List ℕ) → IsTrue (list_all is_plain (words line))

-- the words of plain words with a space between each two are those words
abbrev pub WordsAreReadBack : Type 0
WordsAreReadBack = (ws : List (List ℕ)) → IsTrue (list_all is_plain ws) → words (join_with_byte 32 ws) ≡ ws

-- a text that begins with a word, which a space or its end ends, is cut behind that word, and begins with it
pub record IsCutOff (word : List ℕ) : Type 0 where
  pub alone : first_word word ≡ word
  pub nothing_behind : behind_word word ≡ []
  pub first : (rest : List ℕ) → first_word (word ++ (32 ∷ rest)) ≡ word
  pub rest_behind : (rest : List ℕ) → behind_word (word ++ (32 ∷ rest)) ≡ rest

-- each plain word is cut off the text that it begins
abbrev pub FirstWordsAreCutOff : Type 0
FirstWordsAreCutOff = (word : List ℕ) → IsTrue (is_plain word) → IsCutOff word

-- what a text has from its first word on begins with that word, also behind a space
pub record BeginsWithAWord (text : List ℕ) : Type 0 where
  pub same : from_first_word (from_first_word text) ≡ from_first_word text
  pub behind_a_space : from_first_word (32 ∷ from_first_word text) ≡ from_first_word text

-- what any text has from its first word on begins with that word
abbrev pub TextsBeginWithAWord : Type 0
TextsBeginWithAWord = (text : List ℕ) → BeginsWithAWord text

-- the decimal digits of a number write that number, and stand as one word
pub record ReadsBack (limit n : ℕ) : Type 0 where
  pub value : number limit (decimal n) ≡ Some n
  pub plain : IsTrue (is_plain (decimal n))

-- each number that is below the limit and has at most ten digits is read back from its digits
abbrev pub NumbersAreReadBack : Type 0
NumbersAreReadBack = (limit n : ℕ) → n < limit → n < 10 ^ 10 → ReadsBack limit n
