-- What the words of a line say is an entry that the file can have.
use Rattle.std.proofs.Common.{◌≡◌, ◌==◌, ◌<◌, ◌^◌, ◌&&◌, ℕ, Bool, true, false, cond, nat_lt, List, [], ◌∷◌, length, refl, arith, eqb-true}
use Rattle.std.specs.Prelude.{Option, Some, None, Result, Ok, Err, codes, ⊤, IfSome}
use Rattle.std.specs.Result.{result_ok}
use Rattle.std.specs.Str.{bytes_eq, is_utf8}
use Rattle.std.specs.Str.Parse.{digits_value}
use Rattle.std.proofs.lemmas.Bool.{false≢true, ltb-true}
use Rattle.std.proofs.lemmas.Str.{IsUtf8-from_is_utf8}
use Rattle.hex.specs.Hex.{decode_of}
use Rattle.hex.specs.declared.error.FromHexError.{FromHexError}
use Rattle.hex.proofs.HexLemmas.{decode_of-ok}
use Rattle.floor_machine.specs.declared.event.Event.TheVariants.{Join, Message, Took, Leave, Revoke, Close, AddUser, AddFloor, SetChair, Say}
use Rattle.floor_words.specs.Words.{is_numeral, number}
use Rattle.floor_wire.specs.Bytes.{IsBytes}
use Rattle.floor_wire.specs.Message.{IsMessage, message_len}
use Rattle.floor_kept.specs.Entries.{IsBorne, IsEntry, IsOctets, IsText, is_key}
use Rattle.floor_kept.specs.declared.entry.Entry.TheVariants.{Happened, Port, Word, End}
use Rattle.floor_kept.specs.steps.Parsed.{and_then, bytes_of, chair_words, entry_words, event_words, floor_words, mark_of, message_of, message_words, say_words, note_words, number_where, octets_where, one_word, port_words, some_bytes, text_of, text_where, three_words, took_words, two_words, unless_none, user_words, word_words}

and_right : (a b : Bool) → (a && b) ≡ true → b ≡ true
and_right true b e = e
and_right false b e = absurd (false≢true e)

-- what follows from a part that is such is such
then : {A B : Type 0} (P : A → Type 0) (Q : B → Type 0) (next : A → Option B) → ((part : A) → P part → IfSome (next part) Q)
    → (o : Option A) → IfSome o P → IfSome (and_then o next) Q
then P Q next h (Some part) fits = h part fits
then P Q next h None fits = tt

either : {B : Type 0} (Q : B → Type 0) (b : Bool) (x y : Option B) → IfSome x Q → IfSome y Q → IfSome (cond b x y) Q
either Q true x y h k = h
either Q false x y h k = k

-- where the test holds
where_true : {B : Type 0} (Q : B → Type 0) (b : Bool) (x : Option B) → (b ≡ true → IfSome x Q) → IfSome (cond b x None) Q
where_true Q true x h = h refl
where_true Q false x h = tt

below : (limit : ℕ) (word : List ℕ) → IfSome (number limit word) (λ n. n < limit)
below limit word =
    where_true (λ n. n < limit) (is_numeral word && nat_lt (digits_value 10 word) limit) (Some (digits_value 10 word))
    (λ e. ltb-true (digits_value 10 word) limit (and_right (is_numeral word) _ e))

decoded : (word : List ℕ) (r : Result (List ℕ) FromHexError) → decode_of word ≡ r → IfSome (result_ok r) IsBytes
decoded word (Ok bytes) e = (decode_of-ok word bytes e).3
decoded word (Err fault) e = tt

bytes_fit : (word : List ℕ) → IfSome (bytes_of word) IsBytes
bytes_fit word = decoded word (decode_of word) refl

some_fit : (bytes : List ℕ) → IsBytes bytes → IfSome (some_bytes bytes) IsOctets
some_fit [] are = tt
some_fit (b ∷ bytes) are = either IsOctets (length (b ∷ bytes) == 0) None (Some (b ∷ bytes)) tt (record { some = omega arith; bytes = are })

text_some : (bytes : List ℕ) → IsBytes bytes → is_utf8 bytes ≡ true → IfSome (some_bytes bytes) IsText
text_some [] are e = tt
text_some (b ∷ bytes) are e =
    either IsText (length (b ∷ bytes) == 0) None (Some (b ∷ bytes)) tt (record { some = omega arith; bytes = are; utf8 = IsUtf8-from_is_utf8 (b ∷ bytes) e })

text_fit : (bytes : List ℕ) → IsBytes bytes → IfSome (text_of bytes) IsText
text_fit bytes are = where_true IsText (is_utf8 bytes) (some_bytes bytes) (text_some bytes are)

message_fit : (bytes : List ℕ) → IsBytes bytes → IfSome (message_of bytes) (λ b. IsMessage b × IsBytes b)
message_fit bytes are =
    where_true (λ b. IsMessage b × IsBytes b) (length bytes == message_len bytes) (Some bytes)
    (λ e. (eqb-true (length bytes) (message_len bytes) e, are))

where_fit : {A : Type 0} (P : A → Type 0) (word : List ℕ) (read : Option A) → IfSome read P → IfSome (unless_none word read) (λ o. IfSome o P)
where_fit {A} P word read h =
    either (λ (o : Option A). IfSome o P) (bytes_eq word (codes "-")) (Some None) (and_then read (λ value. Some (Some value))) tt
    (then P (λ (o : Option A). IfSome o P) (λ value. Some (Some value)) (λ value fits. fits) read h)

number_where_fit : (word : List ℕ) → IfSome (number_where word) (λ o. IfSome o (λ n. n < 2 ^ 16))
number_where_fit word = where_fit (λ n. n < 2 ^ 16) word (number (2 ^ 16) word) (below (2 ^ 16) word)

text_where_fit : (word : List ℕ) → IfSome (text_where word) (λ o. IfSome o IsText)
text_where_fit word =
    where_fit IsText word (and_then (bytes_of word) text_of) (then IsBytes IsText text_of text_fit (bytes_of word) (bytes_fit word))

octets_where_fit : (word : List ℕ) → IfSome (octets_where word) (λ o. IfSome o IsOctets)
octets_where_fit word =
    where_fit IsOctets word (and_then (bytes_of word) some_bytes) (then IsBytes IsOctets some_bytes some_fit (bytes_of word) (bytes_fit word))

one_fits : (name : List ℕ) → IfSome (one_word name) IsBorne
one_fits name = either IsBorne (bytes_eq name (codes "close")) (Some Close) None tt tt

two_fit : (name word : List ℕ) → IfSome (two_words name word) IsBorne
two_fit name word =
    either IsBorne (bytes_eq name (codes "join")) _ _ (then (λ n. n < 2 ^ 16) IsBorne (λ n. Some (Join n)) (λ n h. h) (number (2 ^ 16) word) (below (2 ^ 16) word))
    (either IsBorne (bytes_eq name (codes "leave")) _ _ (then (λ n. n < 2 ^ 32) IsBorne (λ n. Some (Leave n)) (λ n h. h) (number (2 ^ 32) word) (below (2 ^ 32) word))
    (either IsBorne (bytes_eq name (codes "revoke")) _ None (then (λ n. n < 2 ^ 16) IsBorne (λ n. Some (Revoke n)) (λ n h. h) (number (2 ^ 16) word) (below (2 ^ 16) word)) tt))

message_fits : (first second : List ℕ) → IfSome (message_words first second) IsBorne
message_fits first second =
    then (λ n. n < 2 ^ 32) IsBorne _
    (λ n h. then (λ b. IsMessage b × IsBytes b) IsBorne (λ bytes. Some (Message n bytes)) (λ b (m, are). (h, m, are))
    (and_then (bytes_of second) message_of) (then IsBytes (λ b. IsMessage b × IsBytes b) message_of message_fit (bytes_of second) (bytes_fit second)))
    (number (2 ^ 32) first) (below (2 ^ 32) first)

say_fits : (first second : List ℕ) → IfSome (say_words first second) IsBorne
say_fits first second =
    then (λ n. n < 2 ^ 16) IsBorne _
    (λ n h. then (λ b. IsMessage b × IsBytes b) IsBorne (λ bytes. Some (Say n bytes)) (λ b (m, are). (h, m, are))
    (and_then (bytes_of second) message_of) (then IsBytes (λ b. IsMessage b × IsBytes b) message_of message_fit (bytes_of second) (bytes_fit second)))
    (number (2 ^ 16) first) (below (2 ^ 16) first)

took_fits : (first second : List ℕ) → IfSome (took_words first second) IsBorne
took_fits first second =
    then (λ n. n < 2 ^ 32) IsBorne _
    (λ n h. then (λ k. k < 2 ^ 32) IsBorne (λ k. Some (Took n k)) (λ k j. (h, j)) (number (2 ^ 32) second) (below (2 ^ 32) second))
    (number (2 ^ 32) first) (below (2 ^ 32) first)

chair_fits : (first second : List ℕ) → IfSome (chair_words first second) IsBorne
chair_fits first second =
    then (λ n. n < 2 ^ 16) IsBorne _
    (λ n h. then (λ o. IfSome o (λ user. user < 2 ^ 16)) IsBorne (λ chair. Some (SetChair n chair)) (λ chair j. (h, j)) (number_where second) (number_where_fit second))
    (number (2 ^ 16) first) (below (2 ^ 16) first)

three_fit : (name first second : List ℕ) → IfSome (three_words name first second) IsBorne
three_fit name first second =
    either IsBorne (bytes_eq name (codes "message")) (message_words first second) _ (message_fits first second)
    (either IsBorne (bytes_eq name (codes "took")) (took_words first second) _ (took_fits first second)
    (either IsBorne (bytes_eq name (codes "chair")) (chair_words first second) _ (chair_fits first second)
    (either IsBorne (bytes_eq name (codes "say")) (say_words first second) None (say_fits first second) tt)))

floor_fits : (name first second third : List ℕ) → IfSome (floor_words name first second third) IsBorne
floor_fits name first second third =
    either IsBorne (bytes_eq name (codes "floor")) _ None
    (then (λ n. n < 2 ^ 16) IsBorne _ (λ id h.
    then (λ n. n < 2 ^ 16) IsBorne _ (λ room j.
    then (λ o. IfSome o (λ user. user < 2 ^ 16)) IsBorne (λ chair. Some (AddFloor record { id = id; room = room; chair = chair }))
    (λ chair k. record { id = h; room = j; chair = k }) (number_where third) (number_where_fit third))
    (number (2 ^ 16) second) (below (2 ^ 16) second))
    (number (2 ^ 16) first) (below (2 ^ 16) first)) tt

marked : (word : List ℕ) → IfSome (mark_of word) (λ b. ⊤)
marked word = either (λ (b : Bool). ⊤) (bytes_eq word (codes "1")) (Some true) _ tt (either (λ (b : Bool). ⊤) (bytes_eq word (codes "0")) (Some false) None tt tt)

user_fits : (name first second third fourth : List ℕ) → IfSome (user_words name first second third fourth) IsBorne
user_fits name first second third fourth =
    either IsBorne (bytes_eq name (codes "user")) _ None
    (then (λ n. n < 2 ^ 16) IsBorne _ (λ id h.
    then (λ b. ⊤) IsBorne _ (λ proxy j.
    then (λ o. IfSome o IsText) IsBorne _ (λ shown k.
    then (λ o. IfSome o IsText) IsBorne
    (λ uri. Some (AddUser record { id = id; name = shown; uri = uri; proxy = proxy; port = None }))
    (λ uri l. record { id = h; name = k; uri = l; port = refl }) (text_where fourth) (text_where_fit fourth))
    (text_where third) (text_where_fit third))
    (mark_of second) (marked second))
    (number (2 ^ 16) first) (below (2 ^ 16) first)) tt

event_fits : (ws : List (List ℕ)) → IfSome (event_words ws) IsBorne
event_fits [] = tt
event_fits (name ∷ []) = one_fits name
event_fits (name ∷ a ∷ []) = two_fit name a
event_fits (name ∷ a ∷ b ∷ []) = three_fit name a b
event_fits (name ∷ a ∷ b ∷ c ∷ []) = floor_fits name a b c
event_fits (name ∷ a ∷ b ∷ c ∷ d ∷ []) = user_fits name a b c d
event_fits (name ∷ a ∷ b ∷ c ∷ d ∷ e ∷ more) = tt

port_fits : (first second : List ℕ) → IfSome (port_words first second) IsEntry
port_fits first second =
    then (λ n. n < 2 ^ 16) IsEntry _
    (λ user h. then (λ n. n < 2 ^ 16) IsEntry (λ port. Some (Port user port)) (λ port j. (h, j)) (number (2 ^ 16) second) (below (2 ^ 16) second))
    (number (2 ^ 16) first) (below (2 ^ 16) first)

word_fits : (key second : List ℕ) → IfSome (word_words key second) IsEntry
word_fits key second =
    where_true IsEntry (is_key key) (and_then (octets_where second) (λ value. Some (Word key value)))
    (λ e. then (λ o. IfSome o IsOctets) IsEntry (λ value. Some (Word key value)) (λ value h. (e, h)) (octets_where second) (octets_where_fit second))

note_fits : (ws : List (List ℕ)) → IfSome (note_words ws) IsEntry
note_fits [] = tt
note_fits (name ∷ []) = tt
note_fits (name ∷ a ∷ []) = tt
note_fits (name ∷ a ∷ b ∷ []) =
    either IsEntry (bytes_eq name (codes "port")) (port_words a b) _ (port_fits a b)
    (either IsEntry (bytes_eq name (codes "word")) (word_words a b) None (word_fits a b) tt)
note_fits (name ∷ a ∷ b ∷ c ∷ more) = tt

-- what the words say fits
pub words_fit : (ws : List (List ℕ)) → IfSome (entry_words ws) IsEntry
words_fit [] = tt
words_fit (first ∷ rest) =
    either IsEntry (bytes_eq first (codes "#")) (note_words rest) _ (note_fits rest)
    (either IsEntry (bytes_eq first (codes "end")) (Some End) _ tt
    (then IsBorne IsEntry (λ e. Some (Happened e)) (λ e h. h) (event_words rest) (event_fits rest)))
