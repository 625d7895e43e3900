-- A text as it is kept, cut at a greatest length in bytes: PARTICIPANT-PROVIDED-INFO and STATUS-INFO (RFC 8855, sections 5.2.8 and 5.2.9).
use Rattle.std.specs.Prelude.{◌≡◌, ◌≤◌, ℕ, zero, suc, Bool, true, ◌&&◌, ◌||◌, nat_le, nat_lt, List, [], ◌∷◌, ◌++◌, length, take, slice_index, Option, Some, None, if◌then◌else◌}
use Rattle.std.specs.Str.{is_utf8}

-- no character of the text is cut at this place
abbrev pub is_whole_at : List ℕ → ℕ → Bool
is_whole_at text place =
    nat_le place (length text) && (nat_le (length text) place || nat_lt (slice_index text place) 128 || nat_le 192 (slice_index text place))

-- the greatest place, up to this one, at which no character of the text is cut
abbrev pub cut_at_most : List ℕ → ℕ → ℕ
cut_at_most text zero = 0
cut_at_most text (suc n) = if is_whole_at text (suc n) then suc n else cut_at_most text n

-- the longest front of a text of at most so many bytes that ends at a character
unfoldable pub shortened : ℕ → List ℕ → List ℕ
shortened most text = take (cut_at_most text most) text

-- what is kept is the longest front of the text that ends at a character and has at most so many bytes
pub record IsLongestFront (most : ℕ) (text kept : List ℕ) : Type 0 where
  pub behind : List ℕ
  pub whole : text ≡ kept ++ behind
  pub ends : is_utf8 kept ≡ true
  pub short : length kept ≤ most
  pub longest : (front more : List ℕ) → text ≡ front ++ more → is_utf8 front ≡ true → length front ≤ most
      → length front ≤ length kept

-- a text that is empty counts as absent
abbrev pub unless_empty : List ℕ → Option (List ℕ)
unless_empty [] = None
unless_empty (b ∷ bytes) = Some (b ∷ bytes)

-- at most so many bytes are kept of the octets, where there are any; octets that are no UTF-8 have no usable value
abbrev pub text_kept : ℕ → Option (List ℕ) → Option (Option (List ℕ))
text_kept most None = Some None
text_kept most (Some text) = if is_utf8 text then Some (unless_empty (shortened most text)) else None
