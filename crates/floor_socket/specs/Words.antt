-- The words that are kept beside a conference.
use Rattle.std.specs.Prelude.{ℕ, ◌+◌, Bool, true, Option, Some, None, fold, ◌&&◌, not, nat_lt, nat_le, List, [], ◌∷◌, ◌++◌, length, filter, sum_by}
use Rattle.std.specs.List.{list_all}
use Rattle.std.specs.Ordering.{is_lt, nat_cmp}
use Rattle.std.specs.Str.{bytes_eq}
use Rattle.std.specs.Cmp.Lexicographic.{slice_cmp}
use Rattle.floor_keep.specs.declared.found.Note.{Note}
use Rattle.floor_kept.specs.declared.entry.Entry.{Entry}
use Rattle.floor_kept.specs.declared.entry.Entry.TheVariants as entry
use Rattle.floor_socket.specs.declared.words.Word.{Word}

-- a key stands before another by the first byte in which they differ, or as its beginning
abbrev pub is_before : List ℕ → List ℕ → Bool
is_before a b = is_lt (slice_cmp nat_cmp a b)

-- two keys are the same
abbrev pub is_same : List ℕ → List ℕ → Bool
is_same a b = bytes_eq a b

-- each word's key stands before the keys of all later words
abbrev pub ascend : List Word → Bool
ascend [] = true
ascend (word ∷ words) = list_all (λ later. is_before word.key later.key) words && ascend words

-- the words whose keys stand before this one
abbrev pub before : List ℕ → List Word → List Word
before key words = filter (λ word. is_before word.key key) words

-- the words whose keys stand behind it
abbrev pub behind : List ℕ → List Word → List Word
behind key words = filter (λ word. is_before key word.key) words

-- the words of all other keys
abbrev pub others : List ℕ → List Word → List Word
others key words = filter (λ word. not (is_same word.key key)) words

-- the words with this one under its key, in place of the one that was there
abbrev pub with_word : List ℕ → List ℕ → List Word → List Word
with_word key value words = before key words ++ record { key = key; value = value } ∷ behind key words

-- how many bytes a word and its key have
abbrev pub word_len : Word → ℕ
word_len word = length word.key + length word.value

-- with this word there are 1,024 at most, and they have 65,536 bytes at most
abbrev pub fits : List ℕ → List ℕ → List Word → Bool
fits key value words =
    nat_lt (length (others key words)) 1024
    && nat_le (sum_by word_len (others key words) + (length key + length value)) 65536

-- the words behind what a file says beside the events
abbrev pub noted_entry : Entry → List Word → List Word
noted_entry (entry.Word key (Some value)) words = with_word key value words
noted_entry (entry.Word key None) words = others key words
noted_entry _ words = words

abbrev pub noted : List Word → Note → List Word
noted words note = noted_entry note.entry words

-- the words of a file
abbrev pub words_of : List Note → List Word
words_of notes = fold noted [] notes
