-- Tags, and a text whose lines bear one.
use Rattle.std.specs.Prelude.{ℕ, ◌==◌, ◌&&◌, ◌||◌, Bool, nat_le, if◌then◌else◌, Option, Some, None, List, [], ◌∷◌, ◌++◌, length, codes}
use Rattle.std.specs.Char.{is_ascii_alphanumeric}
use Rattle.std.specs.List.{list_all, slice_split}

-- the byte may stand in a tag: it is a letter or a digit of ASCII, `-`, `_` or `.`
abbrev pub is_tag_byte : ℕ → Bool
is_tag_byte b = is_ascii_alphanumeric b || (b == 45 || (b == 95 || b == 46))

-- the word is a tag: it has 1 to 32 bytes, and each may stand in one
abbrev pub is_tag : List ℕ → Bool
is_tag word = nat_le 1 (length word) && (nat_le (length word) 32 && list_all is_tag_byte word)

-- the word, where it is a tag
abbrev pub tag_of : List ℕ → Option (List ℕ)
tag_of word = if is_tag word then Some word else None

-- what stands in front of each line
abbrev pub mark : List ℕ → List ℕ
mark tag = codes "@" ++ (tag ++ codes " ")

-- the parts between line feeds as lines behind a tag: an empty last part is no line, and a last part has no line feed
abbrev pub parts_behind : List ℕ → List (List ℕ) → List ℕ
parts_behind tag [] = []
parts_behind tag ([] ∷ []) = []
parts_behind tag ((b ∷ part) ∷ []) = mark tag ++ (b ∷ part)
parts_behind tag (part ∷ next ∷ parts) = (mark tag ++ (part ++ codes "\n")) ++ parts_behind tag (next ∷ parts)

-- the lines of a text, each behind a tag
abbrev pub lines_behind : List ℕ → List ℕ → List ℕ
lines_behind tag text = parts_behind tag (slice_split (λ b. b == 10) text)

-- a text, each of whose lines bears the tag, where there is one
abbrev pub tagged : Option (List ℕ) → List ℕ → List ℕ
tagged None text = text
tagged (Some tag) text = lines_behind tag text
