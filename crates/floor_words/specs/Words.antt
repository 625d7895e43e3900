-- The words of a line, and what a word says.
use Rattle.std.specs.Prelude.{◌≡◌, ℕ, ◌&&◌, Bool, cond, nat_lt, nat_le, ◌==◌, IsTrue, Option, Some, None, List, [], ◌∷◌, length, filter, drop}
use Rattle.std.specs.Char.{is_ascii_digit}
use Rattle.std.specs.List.{after_first, before_first, concat, list_all, prefix_len, slice_split}
use Rattle.std.specs.Result.{result_ok}
use Rattle.std.specs.Str.Parse.{digits_value}
use Rattle.hex.specs.Hex.{decode_of}
use Rattle.floor_words.specs.declared.word.CutWord.{CutWord}

-- the byte parts words: it is a space
abbrev pub is_space : ℕ → Bool
is_space b = b == 32

-- the piece between two spaces is a word: it isn't empty
abbrev pub is_word : List ℕ → Bool
is_word piece = nat_lt 0 (length piece)

-- the words of a line: the pieces between its spaces that aren't empty
abbrev pub words : List ℕ → List (List ℕ)
words line = filter is_word (slice_split is_space line)

-- the text from its first byte on that is no space
abbrev pub from_first_word : List ℕ → List ℕ
from_first_word text = drop (prefix_len is_space text) text

-- the first word of a text; empty where it has none
abbrev pub first_word : List ℕ → List ℕ
first_word text = before_first is_space (from_first_word text)

-- what stands behind the first word of a text and the space that ends it
abbrev pub behind_word : List ℕ → List ℕ
behind_word text = after_first is_space (from_first_word text)

-- the text has no word
pub record HasNoWord (text : List ℕ) : Type 0 where
  pub from : from_first_word text ≡ []
  pub first : first_word text ≡ []
  pub behind : behind_word text ≡ []
  pub words_are : words text ≡ []

-- the cut is the text's first word and what stands behind it, and so the text's words are that word and then those of what stands behind
pub record IsCutWord (text : List ℕ) (cut : CutWord) : Type 0 where
  pub word : cut.word.now ≡ first_word text
  pub rest : cut.rest.now ≡ behind_word text
  pub some : IsTrue (is_word cut.word.now)
  pub words_are : words text ≡ cut.word.now ∷ words cut.rest.now

-- the word is one to ten decimal digits
abbrev pub is_numeral : List ℕ → Bool
is_numeral word = is_word word && (nat_le (length word) 10 && list_all is_ascii_digit word)

-- the number that a numeral writes, where it is below the limit
abbrev pub number : ℕ → List ℕ → Option ℕ
number limit word = cond (is_numeral word && nat_lt (digits_value 10 word) limit) (Some (digits_value 10 word)) None

-- words one behind another
abbrev pub joined : List (List ℕ) → List ℕ
joined ws = concat ws

-- the bytes that the joined words spell as pairs of hexadecimal digits, in either case
abbrev pub spelled : List (List ℕ) → Option (List ℕ)
spelled ws = result_ok (decode_of (joined ws))
