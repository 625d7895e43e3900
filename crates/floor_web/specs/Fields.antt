-- The fields of a request (RFC 9110, section 5).
use Rattle.std.specs.Prelude.{ℕ, Bool, ◌||◌, ◌==◌, List, [], ◌∷◌, length, take, drop, bytes_eq, Option, Some, None, Result, Ok, Err, if◌then◌else◌}
use Rattle.std.specs.List.{list_any, slice_split}
use Rattle.websocket.specs.Headers.{Fields, eq_ignore_case}
use Rattle.floor_web.specs.declared.refusal.Refusal.{Refusal}
use Rattle.floor_web.specs.declared.refusal.Refusal.TheVariants.{BadRequest}

-- the values of the fields with this name, in any case of its letters
abbrev pub values_of : Fields → List ℕ → List (List ℕ)
values_of [] name = []
values_of (f ∷ fs) name = if eq_ignore_case f.0 name then f.1 ∷ values_of fs name else values_of fs name

-- the value of a field that may stand once; a second is a bad request
abbrev pub only : List (List ℕ) → Result (Option (List ℕ)) Refusal
only [] = Ok None
only (v ∷ []) = Ok (Some v)
only (v ∷ w ∷ more) = Err BadRequest

-- the last of these values; the one before them where there is none
abbrev pub last_behind : Option (List ℕ) → List (List ℕ) → Option (List ℕ)
last_behind found [] = found
last_behind found (v ∷ vs) = last_behind (Some v) vs

-- a byte that parts the words of a list: a comma, or white space
abbrev pub is_separator : ℕ → Bool
is_separator b = (b == 44) || (b == 32) || (b == 9)

-- the words of a list
abbrev pub words : List ℕ → List (List ℕ)
words value = slice_split is_separator value

-- one of the words of these lists is this one, in any case of its letters
abbrev pub has_word : List (List ℕ) → List ℕ → Bool
has_word values word = list_any (λ value. list_any (λ w. eq_ignore_case w word) (words value)) values

-- what stands behind a prefix, where the text has it
abbrev pub behind : List ℕ → List ℕ → Option (List ℕ)
behind text prefix = if bytes_eq (take (length prefix) text) prefix then Some (drop (length prefix) text) else None

-- one of the words is this one exactly
abbrev pub offers : List (List ℕ) → List ℕ → Bool
offers values word = list_any (λ value. list_any (λ w. bytes_eq w word) (words value)) values
