-- What a head asks (RFC 9112, sections 2 and 3).
use Rattle.std.specs.Prelude.{◌≡◌, ℕ, ◌<◌, ◌≤◌, if◌then◌else◌, Bool, true, false, nat_lt, bytes_eq, codes, List, length, Option, Some, None, Result, Ok, Err}
use Rattle.httparse.specs.Grammar.{RequestHead, print_request, ReadsRequest, HasNoRequest, NeverHasRequest, MayBecomeRequest}
use Rattle.httparse.specs.Spans.{RequestExceeds}
use Rattle.floor_http.specs.declared.head.Asked.{Asked}
use Rattle.floor_http.specs.declared.head.Asked.TheVariants.{Metrics, Health, Ready}
use Rattle.floor_http.specs.declared.head.Unasked.{Unasked}
use Rattle.floor_http.specs.declared.head.Unasked.TheVariants.{TooLong, Bad, NotGet, Nothing}

-- what is asked at a path: at any other nothing
abbrev pub at_path : List ℕ → Result Asked Unasked
at_path path =
    if bytes_eq path (codes "/metrics") then Ok Metrics
    else if bytes_eq path (codes "/healthz") then Ok Health
    else if bytes_eq path (codes "/readyz") then Ok Ready
    else Err Nothing

-- what is asked by a method and a target: by GET alone something
abbrev pub asked_by : (method target : List ℕ) → Result Asked Unasked
asked_by method target = if bytes_eq method (codes "GET") then at_path target else Err NotGet

abbrev pub asked_within : (is_too_long : Bool) → (method target : List ℕ) → Result Asked Unasked
asked_within true method target = Err TooLong
asked_within false method target = asked_by method target

-- what a head asks: one of more than 8,192 bytes nothing
abbrev pub asked : RequestHead → Result Asked Unasked
asked h = asked_within (nat_lt 8192 (length (print_request h))) h.method h.target

-- What bytes are read as: by their head where it is whole; else they wait for more, or are too long, have too many fields, or can't become a head.
pub data Reads (bytes : List ℕ) (reading : Option (Result Asked Unasked)) : Type 0 where
  by_head : (h : RequestHead) (rest : List ℕ) → ReadsRequest bytes h rest → reading ≡ Some (asked h) → Reads bytes reading
  for_more : reading ≡ None → HasNoRequest bytes → MayBecomeRequest bytes → length bytes ≤ 8192 → Reads bytes reading
  too_long : reading ≡ Some (Err TooLong) → HasNoRequest bytes → 8192 < length bytes → Reads bytes reading
  too_many : reading ≡ Some (Err TooLong) → RequestExceeds 64 bytes → Reads bytes reading
  never : reading ≡ Some (Err Bad) → NeverHasRequest bytes → Reads bytes reading
