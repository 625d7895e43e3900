-- The head of a request, as far as it has come (RFC 9112, sections 2 and 3).
use Rattle.std.specs.Prelude.{◌≡◌, ℕ, ◌<◌, ◌≤◌, ◌==◌, if◌then◌else◌, Bool, true, false, nat_lt, List, length, map, Option, None, Result, Ok, Err}
use Rattle.httparse.specs.Grammar.{RequestHead, print_request, ReadsRequest, HasNoRequest, NeverHasRequest, MayBecomeRequest}
use Rattle.httparse.specs.Spans.{name_and_value, RequestExceeds}
use Rattle.floor_web.specs.declared.refusal.Refusal.{Refusal}
use Rattle.floor_web.specs.declared.refusal.Refusal.TheVariants.{BadRequest, TooLarge}
use Rattle.floor_web.specs.declared.head.Reading.{Reading}
use Rattle.floor_web.specs.declared.head.Reading.TheVariants.{Waits, Whole, Refused}
use Rattle.floor_web.specs.Fields.{last_behind, values_of}
use Rattle.floor_web.specs.Asked.{Wanted, asked, Answers}

-- what a head asks for, of HTTP/1.1 alone
abbrev pub asked_by : List (List ℕ) → RequestHead → Result Wanted Refusal
asked_by listed h = if h.minor == 1 then asked listed h.method h.target (map name_and_value h.fields) else Err BadRequest

-- the head of this length is answered so
abbrev pub AnswersAt : Result Wanted Refusal → ℕ → Reading → Type 0
AnswersAt wanted len Waits = ⊥
AnswersAt wanted len (Whole answer at) = Answers wanted (Ok answer) × (at ≡ len)
AnswersAt wanted len (Refused refusal) = Answers wanted (Err refusal)

abbrev pub ReadsWithin : (too_long : Bool) → List (List ℕ) → RequestHead → Reading → Type 0
ReadsWithin true listed h reading = reading ≡ Refused TooLarge
ReadsWithin false listed h reading = AnswersAt (asked_by listed h) (length (print_request h)) reading

-- a head of at most 8,192 bytes is read as what it asks for, and a longer one refused
abbrev pub ReadsAs : List (List ℕ) → RequestHead → Reading → Type 0
ReadsAs listed h reading = ReadsWithin (nat_lt 8192 (length (print_request h))) listed h reading

-- What bytes are read as: by their head where it is whole; else they wait for more, or are too long, have too many fields, or can't become a request.
pub data Reads (listed : List (List ℕ)) (bytes : List ℕ) (reading : Reading) : Type 0 where
  by_head : (h : RequestHead) (rest : List ℕ) → ReadsRequest bytes h rest → ReadsAs listed h reading → Reads listed bytes reading
  for_more : reading ≡ Waits → HasNoRequest bytes → MayBecomeRequest bytes → length bytes ≤ 8192 → Reads listed bytes reading
  too_long : reading ≡ Refused TooLarge → HasNoRequest bytes → 8192 < length bytes → Reads listed bytes reading
  too_many : reading ≡ Refused TooLarge → RequestExceeds 64 bytes → Reads listed bytes reading
  never : reading ≡ Refused BadRequest → NeverHasRequest bytes → Reads listed bytes reading

-- The value of the last field with a name, of the head at the front of the bytes: none where none is whole, it has too many fields, or can't become a request.
pub data HasLast (bytes name : List ℕ) (value : Option (List ℕ)) : Type 0 where
  of_head : (h : RequestHead) (rest : List ℕ) → ReadsRequest bytes h rest → value ≡ last_behind None (values_of (map name_and_value h.fields) name) → HasLast bytes name value
  no_head : value ≡ None → HasNoRequest bytes → HasLast bytes name value
  too_many_fields : value ≡ None → RequestExceeds 64 bytes → HasLast bytes name value
  no_request : value ≡ None → NeverHasRequest bytes → HasLast bytes name value
