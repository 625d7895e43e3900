-- Who a header names: CONFERENCE.USER.
use Rattle.std.specs.Prelude.{ℕ, ◌==◌, ◌&&◌, ◌^◌, Bool, cond, nat_lt, List, length, slice_index, Option, None, option_map, option_and_then}
use Rattle.std.specs.List.{before_first, after_first}
use Rattle.floor_words.specs.Words.{number}
use Rattle.floor_proxy.specs.declared.name.Name.{Name}

-- the byte is a dot
abbrev pub is_dot : ℕ → Bool
is_dot b = b == 46

-- a digit 0 stands in front of another byte
abbrev pub has_leading_zero : List ℕ → Bool
has_leading_zero digits = nat_lt 1 (length digits) && (slice_index digits 0 == 48)

-- the number below the limit that one to ten decimal digits write, without a leading zero
abbrev pub numeral : ℕ → List ℕ → Option ℕ
numeral limit digits = cond (has_leading_zero digits) None (number limit digits)

-- a conference of 32 bits, and a user of 16, where both are there
abbrev pub both : Option ℕ → Option ℕ → Option Name
both conference user = option_and_then (λ c. option_map (λ u. record { conference = c; user = u }) user) conference

-- the name that the bytes are: a conference's number before the first dot, and a user's behind it
abbrev pub name_in : List ℕ → Option Name
name_in bytes = both (numeral (2 ^ 32) (before_first is_dot bytes)) (numeral (2 ^ 16) (after_first is_dot bytes))
