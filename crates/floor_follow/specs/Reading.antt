-- What is read of a line, word by word.
use Rattle.std.specs.Prelude.{◌≡◌, ◌⊎◌, ◌==◌, ◌^◌, not, ℕ, Bool, List, [], ◌∷◌, codes, bytes_eq, Option, Some, None, Result, Ok, Err, if◌then◌else◌}
use Rattle.std.specs.List.{after_first, before_first}
use Rattle.floor_words.specs.Words.{behind_word, first_word, is_word, number, spelled}
use Rattle.floor_words.specs.declared.hexadecimal.HexadecimalFault.{HexadecimalFault}
use Rattle.floor_words.specs.declared.hexadecimal.HexadecimalFault.TheVariants as hexadecimal
use Rattle.floor_follow.specs.declared.fault.FollowFault.{FollowFault}
use Rattle.floor_follow.specs.declared.fault.FollowFault.TheVariants.{UnknownLine, BadNumber, BadHex, Memory}

-- what follows from a part of a line: where the part is bad its fault counts, and nothing behind it
abbrev pub and_then : {A B : Type 0} → Result A FollowFault → (A → Result B FollowFault) → Result B FollowFault
and_then (Ok part) next = next part
and_then (Err fault) next = Err fault

-- a reading gives what is meant, or memory was refused
abbrev pub Reads : {A : Type 0} → Result A FollowFault → Result A FollowFault → Type 0
Reads meant result = (result ≡ meant) ⊎ (result ≡ Err Memory)

abbrev pub of_hexadecimal_fault : HexadecimalFault → FollowFault
of_hexadecimal_fault hexadecimal.BadHex = BadHex
of_hexadecimal_fault hexadecimal.Memory = Memory

-- the first word of a text, which has to be there, and what is left
abbrev pub cut : List ℕ → Result (List ℕ × List ℕ) FollowFault
cut text = if is_word (first_word text) then Ok (first_word text, behind_word text) else Err UnknownLine

abbrev pub begins_with : List ℕ → List ℕ → Bool
begins_with word text = bytes_eq (first_word text) word

-- what is left behind this word, which has to be the first
abbrev pub expect : List ℕ → List ℕ → Result (List ℕ) FollowFault
expect word text = and_then (cut text) (λ c. if bytes_eq c.0 word then Ok c.1 else Err UnknownLine)

abbrev pub is_empty : List ℕ → Bool
is_empty text = not (is_word (first_word text))

-- no word is left
abbrev pub end : List ℕ → Result (Unit {0}) FollowFault
end text = if is_empty text then Ok tt else Err UnknownLine

abbrev pub number_or_fault : Option ℕ → List ℕ → Result (ℕ × List ℕ) FollowFault
number_or_fault (Some n) rest = Ok (n, rest)
number_or_fault None rest = Err BadNumber

-- a number below the limit, and what is left
abbrev pub numbered : ℕ → List ℕ → Result (ℕ × List ℕ) FollowFault
numbered limit text = and_then (cut text) (λ c. number_or_fault (number limit c.0) c.1)

-- a number below the limit, or `-` for none, and what is left
abbrev pub optional : ℕ → List ℕ → Result (Option ℕ × List ℕ) FollowFault
optional limit text = and_then (cut text) (λ c.
    if bytes_eq c.0 (codes "-") then Ok (None, c.1) else and_then (numbered limit c.0) (λ n. Ok (Some n.0, c.1)))

abbrev pub octets_or_fault : Option (List ℕ) → List ℕ → Result (List ℕ × List ℕ) FollowFault
octets_or_fault (Some bytes) rest = Ok (bytes, rest)
octets_or_fault None rest = Err BadHex

-- the octets that a word of hexadecimal spells, and what is left
abbrev pub octets : List ℕ → Result (List ℕ × List ℕ) FollowFault
octets text = and_then (cut text) (λ c. octets_or_fault (spelled (c.0 ∷ [])) c.1)

-- the same, or `-` for none
abbrev pub optional_octets : List ℕ → Result (Option (List ℕ) × List ℕ) FollowFault
optional_octets text = and_then (cut text) (λ c.
    if bytes_eq c.0 (codes "-") then Ok (None, c.1) else and_then (octets c.0) (λ o. Ok (Some o.0, c.1)))

-- what stands in front of the first byte `:`, and behind it
abbrev pub parted : List ℕ → List ℕ × List ℕ
parted text = (before_first (λ b. b == 58) text, after_first (λ b. b == 58) text)
