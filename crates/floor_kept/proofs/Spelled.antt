-- What is printed of an entry is read back by the words of its line.
use Rattle.std.proofs.Common.{◌≡◌, ◌==◌, ◌<◌, ◌≤◌, ◌^◌, ◌&&◌, ◌/◌, ◌%◌, ℕ, zero, suc, Bool, true, false, not, cond, List, [], ◌∷◌, ◌++◌, length, refl, sym, ◌∙◌, ap, arith, append_assoc, ◌-◌, eq-eqb, eqb-true}
use Rattle.std.specs.Prelude.{Option, Some, None, codes, IfSome, slice_index}
use Rattle.std.specs.Result.{result_ok}
use Rattle.std.specs.Fmt.{decimal}
use Rattle.std.specs.List.{join_with_byte, list_all}
use Rattle.std.specs.Str.{bytes_eq, is_utf8}
use Rattle.std.proofs.lemmas.Bool.{false≢true, lt-ltb}
use Rattle.std.proofs.lemmas.List.{append_cancel_right}
use Rattle.std.proofs.lemmas.Slice.Eq.{bytes_eq-Decides}
use Rattle.std.proofs.lemmas.Str.{is_utf8-from_IsUtf8}
use Rattle.hex.specs.Hex.{encode_lower, encode_with, lower_digits}
use Rattle.hex.proofs.HexLemmas.{decode_of-encode_lower}
use Rattle.floor_machine.specs.declared.event.Event.{Event}
use Rattle.floor_machine.specs.declared.event.Event.TheVariants.{Join, Message, Took, Leave, Revoke, Close, AddUser, AddFloor, SetChair, Say}
use Rattle.floor_room.specs.Text.{line, mark_word, number_word, text_word}
use Rattle.floor_words.specs.Laws.{NumbersAreReadBack, WordsAreReadBack, is_plain}
use Rattle.floor_words.specs.Words.{is_space, is_word, number, words}
use Rattle.floor_wire.specs.Bytes.{IsBytes}
use Rattle.floor_wire.specs.Message.{IsMessage, message_len}
use Rattle.floor_kept.specs.Entries.{IsBorne, IsEntry, IsOctets, IsText, entry_line, is_key}
use Rattle.floor_kept.specs.declared.entry.Entry.{Entry}
use Rattle.floor_kept.specs.declared.entry.Entry.TheVariants.{Happened, Port, Word, End}
use Rattle.floor_kept.specs.steps.Parsed.{and_then, bytes_of, entry_words, event_words, happened, mark_of, message_of, number_where, octets_where, some_bytes, text_of, text_where, unless_none}

and_left : (a b : Bool) → (a && b) ≡ true → a ≡ true
and_left true b e = refl
and_left false b e = e

and_right : (a b : Bool) → (a && b) ≡ true → b ≡ true
and_right true b e = e
and_right false b e = absurd (false≢true e)

both : (a b : Bool) → a ≡ true → b ≡ true → (a && b) ≡ true
both true b e h = h
both false b e h = absurd (false≢true e)

-- no element of a table is a space, nor what stands behind it
no_space_at : (t : List ℕ) (k : ℕ) → list_all (λ b. not (is_space b)) t ≡ true → not (is_space (slice_index t k)) ≡ true
no_space_at [] k e = refl
no_space_at (b ∷ t) zero e = and_left (not (is_space b)) _ e
no_space_at (b ∷ t) (suc k) e = no_space_at t k (and_right (not (is_space b)) _ e)

-- hexadecimal has no space
hex_clear : (bytes : List ℕ) → list_all (λ b. not (is_space b)) (encode_lower bytes) ≡ true
unfolding encode_with
hex_clear [] = refl
hex_clear (b ∷ bytes) =
    both (not (is_space (slice_index lower_digits (b / 16)))) _ (no_space_at lower_digits (b / 16) refl)
    (both (not (is_space (slice_index lower_digits (b % 16)))) _ (no_space_at lower_digits (b % 16) refl) (hex_clear bytes))

hex_some : (b : ℕ) (bytes : List ℕ) → is_word (encode_lower (b ∷ bytes)) ≡ true
unfolding encode_with
hex_some b bytes = lt-ltb 0 _ (omega arith)

hex_plain : (bytes : List ℕ) → 1 ≤ length bytes → is_plain (encode_lower bytes) ≡ true
hex_plain [] some = absurd (omega (arith, some))
hex_plain (b ∷ bytes) some = both (is_word (encode_lower (b ∷ bytes))) _ (hex_some b bytes) (hex_clear (b ∷ bytes))

-- hexadecimal isn't the word for none
hex_isnt_none : (b : ℕ) (bytes : List ℕ) → bytes_eq (encode_lower (b ∷ bytes)) (codes "-") ≡ false
unfolding encode_with
hex_isnt_none b bytes = elim (bytes_eq (encode_lower (b ∷ bytes)) (codes "-")) as (λ t. bytes_eq (encode_lower (b ∷ bytes)) (codes "-") ≡ t → t ≡ false) [
  | true ↦ λ e. absurd (omega (arith, ap length ((bytes_eq-Decides (encode_lower (b ∷ bytes)) (codes "-")).0 e)))
  | false ↦ λ e. refl
] refl

not_chosen : {A : Type 0} (b : Bool) (x y : A) → b ≡ false → cond b x y ≡ y
not_chosen true x y e = absurd (false≢true (sym e))
not_chosen false x y e = refl

chosen : {A : Type 0} (b : Bool) (x y : A) → b ≡ true → cond b x y ≡ x
chosen true x y e = refl
chosen false x y e = absurd (false≢true e)

-- bytes are read back from hexadecimal
bytes_back : (bytes : List ℕ) → IsBytes bytes → bytes_of (encode_lower bytes) ≡ Some bytes
bytes_back bytes are = ap result_ok (decode_of-encode_lower bytes are)

-- a text in UTF-8 is of bytes
isnt_zero : (n : ℕ) → 1 ≤ n → (n == 0) ≡ false
isnt_zero n some = elim (n == 0) as (λ t. (n == 0) ≡ t → t ≡ false) [
  | true ↦ λ e. absurd (omega (arith, some, eqb-true n 0 e))
  | false ↦ λ e. refl
] refl

some_back : (bytes : List ℕ) → 1 ≤ length bytes → some_bytes bytes ≡ Some bytes
some_back bytes some = not_chosen (length bytes == 0) None (Some bytes) (isnt_zero (length bytes) some)

module _ (numbers : NumbersAreReadBack) where
  short_back : (n : ℕ) → n < 2 ^ 16 → number (2 ^ 16) (decimal n) ≡ Some n
  short_back n h = (numbers (2 ^ 16) n h (omega (arith, h))).value

  long_back : (n : ℕ) → n < 2 ^ 32 → number (2 ^ 32) (decimal n) ≡ Some n
  long_back n h = (numbers (2 ^ 32) n h (omega (arith, h))).value

  long_plain : (n : ℕ) → n < 2 ^ 32 → is_plain (decimal n) ≡ true
  long_plain n h = (numbers (2 ^ 32) n h (omega (arith, h))).plain

  short_plain : (n : ℕ) → n < 2 ^ 16 → is_plain (decimal n) ≡ true
  short_plain n h = long_plain n (omega (arith, h))

  -- a number's digits aren't a word that is no numeral
  isnt : (n : ℕ) (word : List ℕ) → n < 2 ^ 32 → number (2 ^ 32) word ≡ None → bytes_eq (decimal n) word ≡ false
  isnt n word h none = elim (bytes_eq (decimal n) word) as (λ t. bytes_eq (decimal n) word ≡ t → t ≡ false) [
    | true ↦ λ e. absurd (cc (sym (long_back n h) ∙ ap (number (2 ^ 32)) ((bytes_eq-Decides (decimal n) word).0 e) ∙ none))
    | false ↦ λ e. refl
  ] refl

  number_where_back : (o : Option ℕ) → IfSome o (λ n. n < 2 ^ 16) → number_where (number_word o) ≡ Some o
  number_where_back None h = refl
  number_where_back (Some n) h =
      not_chosen (bytes_eq (decimal n) (codes "-")) _ _ (isnt n (codes "-") (omega (arith, h)) refl)
      ∙ ap (λ r. and_then r (λ value. Some (Some value))) (short_back n h)

  number_where_plain : (o : Option ℕ) → IfSome o (λ n. n < 2 ^ 16) → is_plain (number_word o) ≡ true
  number_where_plain None h = refl
  number_where_plain (Some n) h = short_plain n h

-- a text that fits is read back from its bytes
text_back : (text : List ℕ) → IsText text → text_of text ≡ Some text
text_back text h = chosen (is_utf8 text) _ _ (is_utf8-from_IsUtf8 text h.utf8) ∙ some_back text h.some

read_where : (b : ℕ) (bytes : List ℕ) (f : List ℕ → Option (List ℕ)) → IsBytes (b ∷ bytes) → f (b ∷ bytes) ≡ Some (b ∷ bytes)
    → unless_none (encode_lower (b ∷ bytes)) (and_then (bytes_of (encode_lower (b ∷ bytes))) f) ≡ Some (Some (b ∷ bytes))
read_where b bytes f are e =
    not_chosen (bytes_eq (encode_lower (b ∷ bytes)) (codes "-")) _ _ (hex_isnt_none b bytes)
    ∙ ap (λ r. and_then (and_then r f) (λ value. Some (Some value))) (bytes_back (b ∷ bytes) are)
    ∙ ap (λ r. and_then r (λ value. Some (Some value))) e

text_where_back : (o : Option (List ℕ)) → IfSome o IsText → text_where (text_word o) ≡ Some o
text_where_back None h = refl
text_where_back (Some []) h = absurd (omega (arith, h.some))
text_where_back (Some (b ∷ bytes)) h = read_where b bytes text_of h.bytes (text_back (b ∷ bytes) h)

octets_where_back : (o : Option (List ℕ)) → IfSome o IsOctets → octets_where (text_word o) ≡ Some o
octets_where_back None h = refl
octets_where_back (Some []) h = absurd (omega (arith, h.some))
octets_where_back (Some (b ∷ bytes)) h = read_where b bytes some_bytes h.bytes (some_back (b ∷ bytes) h.some)

text_word_plain : (o : Option (List ℕ)) → is_plain (text_word o) ≡ true
text_word_plain None = refl
text_word_plain (Some []) = refl
text_word_plain (Some (b ∷ bytes)) = hex_plain (b ∷ bytes) (omega arith)

mark_back : (b : Bool) → mark_of (mark_word b) ≡ Some b
mark_back true = refl
mark_back false = refl

mark_plain : (b : Bool) → is_plain (mark_word b) ≡ true
mark_plain true = refl
mark_plain false = refl

message_back : (bytes : List ℕ) → IsMessage bytes → message_of bytes ≡ Some bytes
message_back bytes h = chosen (length bytes == message_len bytes) _ _ (eq-eqb (length bytes) (message_len bytes) h)

-- the words of an event's line behind the place
abbrev pub event_spelled : Event → List (List ℕ)
event_spelled (Join user) = codes "join" ∷ decimal user ∷ []
event_spelled (Message n bytes) = codes "message" ∷ decimal n ∷ encode_lower bytes ∷ []
event_spelled (Took n k) = codes "took" ∷ decimal n ∷ decimal k ∷ []
event_spelled (Leave n) = codes "leave" ∷ decimal n ∷ []
event_spelled (Revoke request) = codes "revoke" ∷ decimal request ∷ []
event_spelled Close = codes "close" ∷ []
event_spelled (AddUser user) = codes "user" ∷ decimal user.id ∷ mark_word user.proxy ∷ text_word user.name ∷ text_word user.uri ∷ []
event_spelled (AddFloor floor) = codes "floor" ∷ decimal floor.id ∷ decimal floor.room ∷ number_word floor.chair ∷ []
event_spelled (SetChair floor chair) = codes "chair" ∷ decimal floor ∷ number_word chair ∷ []
event_spelled (Say user bytes) = codes "say" ∷ decimal user ∷ encode_lower bytes ∷ []

-- the words of an entry's line
abbrev pub spelled : ℕ → Entry → List (List ℕ)
spelled place (Happened e) = decimal place ∷ event_spelled e
spelled place (Port user port) = codes "#" ∷ codes "port" ∷ decimal user ∷ decimal port ∷ []
spelled place (Word key value) = codes "#" ∷ codes "word" ∷ key ∷ text_word value ∷ []
spelled place End = codes "end" ∷ decimal (place - 1) ∷ []

event_joined : (place : ℕ) (e : Event) → line place e ≡ join_with_byte 32 (decimal place ∷ event_spelled e) ++ codes "\n"
event_joined place (Join user) = simp append_assoc
event_joined place (Message n bytes) = simp append_assoc
event_joined place (Took n k) = simp append_assoc
event_joined place (Leave n) = simp append_assoc
event_joined place (Revoke request) = simp append_assoc
event_joined place Close = simp append_assoc
event_joined place (AddUser user) = simp append_assoc
event_joined place (AddFloor floor) = simp append_assoc
event_joined place (SetChair floor chair) = simp append_assoc
event_joined place (Say user bytes) = simp append_assoc

pub joined : (place : ℕ) (entry : Entry) → entry_line place entry ≡ join_with_byte 32 (spelled place entry) ++ codes "\n"
joined place (Happened e) = event_joined place e
joined place (Port user port) = simp append_assoc
joined place (Word key value) = simp append_assoc
joined place End = simp append_assoc

module _ (numbers : NumbersAreReadBack) where
  one_plain : (w : List ℕ) (ws : List (List ℕ)) → is_plain w ≡ true → list_all is_plain ws ≡ true → list_all is_plain (w ∷ ws) ≡ true
  one_plain w ws p ps = both (is_plain w) _ p ps

  event_plain : (e : Event) → IsBorne e → list_all is_plain (event_spelled e) ≡ true
  event_plain (Join user) h = one_plain (decimal user) [] (short_plain numbers user h) refl
  event_plain (Message n bytes) (h, m, b) =
      one_plain (decimal n) (encode_lower bytes ∷ []) (long_plain numbers n h) (one_plain (encode_lower bytes) [] (hex_plain bytes (omega (arith, m))) refl)
  event_plain (Took n k) (h, j) =
      one_plain (decimal n) (decimal k ∷ []) (long_plain numbers n h) (one_plain (decimal k) [] (long_plain numbers k j) refl)
  event_plain (Leave n) h = one_plain (decimal n) [] (long_plain numbers n h) refl
  event_plain (Revoke request) h = one_plain (decimal request) [] (short_plain numbers request h) refl
  event_plain Close h = refl
  event_plain (AddUser user) h =
      one_plain (decimal user.id) (mark_word user.proxy ∷ text_word user.name ∷ text_word user.uri ∷ []) (short_plain numbers user.id h.id)
      (one_plain (mark_word user.proxy) (text_word user.name ∷ text_word user.uri ∷ []) (mark_plain user.proxy)
      (one_plain (text_word user.name) (text_word user.uri ∷ []) (text_word_plain user.name)
      (one_plain (text_word user.uri) [] (text_word_plain user.uri) refl)))
  event_plain (AddFloor floor) h =
      one_plain (decimal floor.id) (decimal floor.room ∷ number_word floor.chair ∷ []) (short_plain numbers floor.id h.id)
      (one_plain (decimal floor.room) (number_word floor.chair ∷ []) (short_plain numbers floor.room h.room)
      (one_plain (number_word floor.chair) [] (number_where_plain numbers floor.chair h.chair) refl))
  event_plain (SetChair floor chair) (h, j) =
      one_plain (decimal floor) (number_word chair ∷ []) (short_plain numbers floor h) (one_plain (number_word chair) [] (number_where_plain numbers chair j) refl)
  event_plain (Say user bytes) (h, m, b) =
      one_plain (decimal user) (encode_lower bytes ∷ []) (short_plain numbers user h) (one_plain (encode_lower bytes) [] (hex_plain bytes (omega (arith, m))) refl)

  plain : (place : ℕ) (entry : Entry) → place < 2 ^ 32 → IsEntry entry → list_all is_plain (spelled place entry) ≡ true
  plain place (Happened e) few h = one_plain (decimal place) (event_spelled e) (long_plain numbers place few) (event_plain e h)
  plain place (Port user port) few (h, j) =
      one_plain (decimal user) (decimal port ∷ []) (short_plain numbers user h) (one_plain (decimal port) [] (short_plain numbers port j) refl)
  plain place (Word key value) few (h, j) =
      one_plain key (text_word value ∷ []) (and_left (is_plain key) _ h) (one_plain (text_word value) [] (text_word_plain value) refl)
  plain place End few h = one_plain (decimal (place - 1)) [] (long_plain numbers (place - 1) (omega (arith, few))) refl

  event_back : (e : Event) → IsBorne e → event_words (event_spelled e) ≡ Some e
  event_back (Join user) h = ap (λ r. and_then r (λ n. Some (Join n))) (short_back numbers user h)
  event_back (Message n bytes) (h, m, b) =
      ap (λ r. and_then r (λ n. and_then (and_then (bytes_of (encode_lower bytes)) message_of) (λ bytes. Some (Message n bytes)))) (long_back numbers n h)
      ∙ ap (λ r. and_then (and_then r message_of) (λ bytes. Some (Message n bytes))) (bytes_back bytes b)
      ∙ ap (λ r. and_then r (λ bytes. Some (Message n bytes))) (message_back bytes m)
  event_back (Took n k) (h, j) = rw (long_back numbers n h, long_back numbers k j) refl
  event_back (Leave n) h = ap (λ r. and_then r (λ n. Some (Leave n))) (long_back numbers n h)
  event_back (Revoke request) h = ap (λ r. and_then r (λ n. Some (Revoke n))) (short_back numbers request h)
  event_back Close h = refl
  event_back (AddUser user) h =
      rw (short_back numbers user.id h.id, mark_back user.proxy, text_where_back user.name h.name, text_where_back user.uri h.uri)
      (ap (λ port. Some (AddUser (record user { port = port }))) (sym h.port))
  event_back (AddFloor floor) h =
      rw (short_back numbers floor.id h.id, short_back numbers floor.room h.room, number_where_back numbers floor.chair h.chair) refl
  event_back (SetChair floor chair) (h, j) = rw (short_back numbers floor h, number_where_back numbers chair j) refl
  event_back (Say user bytes) (h, m, b) =
      ap (λ r. and_then r (λ user. and_then (and_then (bytes_of (encode_lower bytes)) message_of) (λ bytes. Some (Say user bytes)))) (short_back numbers user h)
      ∙ ap (λ r. and_then (and_then r message_of) (λ bytes. Some (Say user bytes))) (bytes_back bytes b)
      ∙ ap (λ r. and_then r (λ bytes. Some (Say user bytes))) (message_back bytes m)

  back : (place : ℕ) (entry : Entry) → place < 2 ^ 32 → IsEntry entry → entry_words (spelled place entry) ≡ Some entry
  back place (Happened e) few h =
      not_chosen (bytes_eq (decimal place) (codes "#")) _ _ (isnt numbers place (codes "#") few refl)
      ∙ not_chosen (bytes_eq (decimal place) (codes "end")) _ _ (isnt numbers place (codes "end") few refl)
      ∙ ap happened (event_back e h)
  back place (Port user port) few (h, j) = rw (short_back numbers user h, short_back numbers port j) refl
  back place (Word key value) few (h, j) =
      chosen (is_key key) _ _ h ∙ ap (λ r. and_then r (λ value. Some (Word key value))) (octets_where_back value j)
  back place End few h = refl

  -- the words of an entry's line say the entry
  pub lines_are_read_back : WordsAreReadBack → (place : ℕ) (entry : Entry) (text : List ℕ) → place < 2 ^ 32 → IsEntry entry
      → entry_line place entry ≡ text ++ codes "\n" → entry_words (words text) ≡ Some entry
  lines_are_read_back again place entry text few h printed =
      let same : text ≡ join_with_byte 32 (spelled place entry) = append_cancel_right text (join_with_byte 32 (spelled place entry)) (codes "\n") (sym printed ∙ joined place entry) in
      ap (λ l. entry_words (words l)) same ∙ ap entry_words (again (spelled place entry) (plain place entry few h)) ∙ back place entry few h
