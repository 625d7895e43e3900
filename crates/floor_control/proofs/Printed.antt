-- What a line asks for can be printed, and what is printed is read back.
use Rattle.std.proofs.Common.{◌≡◌, ◌<◌, ◌^◌, ◌&&◌, ℕ, Bool, true, false, cond, nat_lt, List, [], ◌∷◌, ◌++◌, refl, ◌∙◌, ap, arith}
use Rattle.std.specs.Prelude.{Option, Some, None, Result, Ok, Err, codes, ⊤}
use Rattle.std.specs.Fmt.{decimal}
use Rattle.std.specs.List.{join_with_byte, list_all}
use Rattle.std.specs.Str.{bytes_eq}
use Rattle.std.specs.Str.Parse.{digits_value}
use Rattle.std.proofs.lemmas.Bool.{false≢true, ltb-true}
use Rattle.std.proofs.lemmas.List.{append-nil}
use Rattle.floor_words.specs.Laws.{FirstWordsAreCutOff, NumbersAreReadBack, WordsAreReadBack, is_plain}
use Rattle.floor_words.specs.Words.{behind_word, is_numeral, is_word, spelled, words}
use Rattle.floor_control.specs.Line.{and_then, alone, bytes_or_fault, from_words, leave_line, number_of, number_or_fault, of_conference, of_name, of_name_upon, only, own_of, some, value_of, with_place, word_line}
use Rattle.floor_control.specs.Laws.{printed, printed_from, printed_value}
use Rattle.floor_control.specs.declared.line.Line.{Line}
use Rattle.floor_control.specs.declared.line.Line.TheVariants.{Command, OpenHere, List as Listing, Users, Members, Floors, Leave, Forget, Journal, Watch, Unwatch, Word, Words, Metrics, Drain}
use Rattle.floor_control.specs.declared.line.LineFault.{LineFault}
use Rattle.floor_control.specs.declared.line.LineFault.TheVariants.{UnknownCommand}
use Rattle.floor_control.specs.declared.reading.From.{From}
use Rattle.floor_control.proofs.Spelled.{IsValue, value_is_plain, value_is_read, value_is_spelled}

and_left : (a b : Bool) → (a && b) ≡ true → a ≡ true
and_left true b e = refl
and_left false b e = e

and_right : (a b : Bool) → (a && b) ≡ true → b ≡ true
and_right true b e = e
and_right false b e = absurd (false≢true e)

both : (a b : Bool) → a ≡ true → b ≡ true → (a && b) ≡ true
both true b e h = h
both false b e h = absurd (false≢true e)

-- a place, where there is one, has ten digits at most
abbrev IsPlace : Option ℕ → Type 0
IsPlace (Some place) = place < 10 ^ 10
IsPlace None = ⊤

-- what is asked for can stand in a line of the socket's own
abbrev pub IsWritten : Line → Type 0
IsWritten (Command command) = ⊥
IsWritten OpenHere = ⊥
IsWritten Listing = ⊤
IsWritten (Users c) = c < 2 ^ 32
IsWritten (Members c) = c < 2 ^ 32
IsWritten (Floors c) = c < 2 ^ 32
IsWritten (Leave c n) = (c < 2 ^ 32) × (n < 2 ^ 32)
IsWritten (Forget c) = c < 2 ^ 32
IsWritten (Journal c from) = (c < 2 ^ 32) × IsPlace from
IsWritten (Watch c from) = (c < 2 ^ 32) × IsPlace from
IsWritten (Unwatch c) = c < 2 ^ 32
IsWritten (Word c key value) = (c < 2 ^ 32) × (is_plain key ≡ true) × IsValue value
IsWritten (Words c) = c < 2 ^ 32
IsWritten Metrics = ⊤
IsWritten Drain = ⊤

abbrev Written : Result Line LineFault → Type 0
Written (Ok line) = IsWritten line
Written (Err fault) = ⊤

abbrev pub WrittenOwn : Result (Option Line) LineFault → Type 0
WrittenOwn (Ok (Some line)) = IsWritten line
WrittenOwn (Ok None) = ⊤
WrittenOwn (Err fault) = ⊤

-- a part that is good is such
abbrev FitsOk : {A : Type 0} → (A → Type 0) → Result A LineFault → Type 0
FitsOk Fits (Ok part) = Fits part
FitsOk Fits (Err fault) = ⊤

-- what follows from a part is such, where each part that is good leads to such
then : {A B : Type 0} (Fits : A → Type 0) (After : B → Type 0) (next : A → Result B LineFault) → ((part : A) → Fits part → FitsOk After (next part))
    → (r : Result A LineFault) → FitsOk Fits r → FitsOk After (and_then r next)
then Fits After next h (Ok part) fits = h part fits
then Fits After next h (Err fault) fits = tt

-- a number that is read is below its limit
limited : (b : Bool) (v limit : ℕ) → (b ≡ true → v < limit) → FitsOk (λ n. n < limit) (number_or_fault (cond b (Some v) None))
limited true v limit h = h refl
limited false v limit h = tt

below : (limit : ℕ) (word : List ℕ) → FitsOk (λ n. n < limit) (number_of limit word)
below limit word =
    limited (is_numeral word && nat_lt (digits_value 10 word) limit) (digits_value 10 word) limit
    (λ e. ltb-true (digits_value 10 word) limit (and_right (is_numeral word) _ e))

-- a part that is good is written
written : (r : Result Line LineFault) → FitsOk IsWritten r → Written r
written (Ok line) h = h
written (Err fault) h = tt

some_written : (r : Result Line LineFault) → FitsOk IsWritten r → WrittenOwn (some r)
some_written (Ok line) h = h
some_written (Err fault) h = tt

alone_written : (line : Line) (ws : List (List ℕ)) → IsWritten line → FitsOk IsWritten (alone line ws)
alone_written line [] h = h
alone_written line (w ∷ ws) h = tt

only_below : (ws : List (List ℕ)) → FitsOk (λ n. n < 2 ^ 32) (only ws)
only_below [] = tt
only_below (c ∷ []) = below (2 ^ 32) c
only_below (a ∷ b ∷ more) = tt

of_only : (make : ℕ → Line) → ((n : ℕ) → n < 2 ^ 32 → IsWritten (make n)) → (r : Result ℕ LineFault) → FitsOk (λ n. n < 2 ^ 32) r
    → WrittenOwn (and_then r (λ c. Ok (Some (make c))))
of_only make h (Ok n) few = h n few
of_only make h (Err fault) few = tt

upon_written : (make : ℕ → Line) → ((n : ℕ) → n < 2 ^ 32 → IsWritten (make n)) → (ws : List (List ℕ)) → WrittenOwn (of_conference make ws)
upon_written make h ws = of_only make h (only ws) (only_below ws)

abbrev FromFits : From → Type 0
FromFits f = (f.conference < 2 ^ 32) × IsPlace f.from

with_place_fits : (c place : List ℕ) → FitsOk FromFits (with_place c place)
with_place_fits c place =
    then (λ n. n < 2 ^ 32) FromFits _ (λ n h.
    then (λ p. p < 10 ^ 10) FromFits _ (λ p k. (h, k)) (number_of (10 ^ 10) place) (below (10 ^ 10) place))
    (number_of (2 ^ 32) c) (below (2 ^ 32) c)

from_on : (b : Bool) (r : Result From LineFault) → FitsOk FromFits r → FitsOk FromFits (cond b r (Err UnknownCommand))
from_on true r h = h
from_on false r h = tt

from_fits : (ws : List (List ℕ)) → FitsOk FromFits (from_words ws)
from_fits [] = tt
from_fits (c ∷ []) = then (λ n. n < 2 ^ 32) FromFits _ (λ n h. (h, tt)) (number_of (2 ^ 32) c) (below (2 ^ 32) c)
from_fits (a ∷ b ∷ []) = tt
from_fits (c ∷ word ∷ place ∷ []) = from_on (bytes_eq word (codes "from")) _ (with_place_fits c place)
from_fits (a ∷ b ∷ c ∷ d ∷ more) = tt

of_from : (make : ℕ → Option ℕ → Line) → ((n : ℕ) (from : Option ℕ) → n < 2 ^ 32 → IsPlace from → IsWritten (make n from))
    → (r : Result From LineFault) → FitsOk FromFits r → WrittenOwn (and_then r (λ f. Ok (Some (make f.conference f.from))))
of_from make h (Ok f) (few, place) = h f.conference f.from few place
of_from make h (Err fault) few = tt

leave_fits : (ws : List (List ℕ)) → FitsOk IsWritten (leave_line ws)
leave_fits [] = tt
leave_fits (a ∷ []) = tt
leave_fits (c ∷ n ∷ []) =
    then (λ n. n < 2 ^ 32) IsWritten _ (λ m h.
    then (λ n. n < 2 ^ 32) IsWritten _ (λ p k. (h, k)) (number_of (2 ^ 32) n) (below (2 ^ 32) n))
    (number_of (2 ^ 32) c) (below (2 ^ 32) c)
leave_fits (a ∷ b ∷ c ∷ more) = tt

-- what is to be kept, where it is spelled, is such that it can be printed
spelled_fits : (word : List ℕ) → is_plain word ≡ true → (o : Option (List ℕ)) → spelled (word ∷ []) ≡ o → FitsOk IsValue (bytes_or_fault o)
spelled_fits word plain (Some bytes) e = value_is_spelled word bytes (and_left (is_word word) _ plain) e
spelled_fits word plain None e = tt

value_on : (b : Bool) (r : Result (Option (List ℕ)) LineFault) → FitsOk IsValue r → FitsOk IsValue (cond b (Ok None) r)
value_on true r h = tt
value_on false r h = h

value_fits : (word : List ℕ) → is_plain word ≡ true → FitsOk IsValue (value_of word)
value_fits word plain = value_on (bytes_eq word (codes "-")) _ (spelled_fits word plain (spelled (word ∷ [])) refl)

word_fits : (ws : List (List ℕ)) → list_all is_plain ws ≡ true → FitsOk IsWritten (word_line ws)
word_fits [] e = tt
word_fits (a ∷ []) e = tt
word_fits (a ∷ b ∷ []) e = tt
word_fits (c ∷ key ∷ word ∷ []) e =
    let rest = and_right (is_plain c) _ e in
    let key_plain = and_left (is_plain key) _ rest in
    let word_plain = and_left (is_plain word) _ (and_right (is_plain key) _ rest) in
    then (λ n. n < 2 ^ 32) IsWritten _ (λ n h.
    then IsValue IsWritten _ (λ value k. (h, key_plain, k)) (value_of word) (value_fits word word_plain))
    (number_of (2 ^ 32) c) (below (2 ^ 32) c)
word_fits (a ∷ b ∷ c ∷ d ∷ more) e = tt

chosen : (b : Bool) (x y : Result (Option Line) LineFault) → WrittenOwn x → WrittenOwn y → WrittenOwn (cond b x y)
chosen true x y h k = h
chosen false x y h k = k

upon_name_written : (name : List ℕ) (ws : List (List ℕ)) → WrittenOwn (of_name_upon name ws)
upon_name_written name ws =
    chosen (bytes_eq name (codes "users")) (of_conference Users ws) _ (upon_written Users (λ n h. h) ws)
    (chosen (bytes_eq name (codes "members")) (of_conference Members ws) _ (upon_written Members (λ n h. h) ws)
    (chosen (bytes_eq name (codes "floors")) (of_conference Floors ws) _ (upon_written Floors (λ n h. h) ws)
    (chosen (bytes_eq name (codes "forget")) (of_conference Forget ws) _ (upon_written Forget (λ n h. h) ws)
    (chosen (bytes_eq name (codes "unwatch")) (of_conference Unwatch ws) _ (upon_written Unwatch (λ n h. h) ws)
    (chosen (bytes_eq name (codes "words")) (of_conference Words ws) (Ok None) (upon_written Words (λ n h. h) ws) tt)))))

-- what a line of the socket's own asks for can be printed
pub name_written : (name : List ℕ) (ws : List (List ℕ)) → list_all is_plain ws ≡ true → WrittenOwn (of_name name ws)
name_written name ws plain =
    let journals = of_from Journal (λ n from h k. (h, k)) (from_words ws) (from_fits ws) in
    let watches = of_from Watch (λ n from h k. (h, k)) (from_words ws) (from_fits ws) in
    chosen (bytes_eq name (codes "list")) (some (alone Listing ws)) _ (some_written (alone Listing ws) (alone_written Listing ws tt))
    (chosen (bytes_eq name (codes "metrics")) (some (alone Metrics ws)) _ (some_written (alone Metrics ws) (alone_written Metrics ws tt))
    (chosen (bytes_eq name (codes "drain")) (some (alone Drain ws)) _ (some_written (alone Drain ws) (alone_written Drain ws tt))
    (chosen (bytes_eq name (codes "leave")) (some (leave_line ws)) _ (some_written (leave_line ws) (leave_fits ws))
    (chosen (bytes_eq name (codes "word")) (some (word_line ws)) _ (some_written (word_line ws) (word_fits ws plain))
    (chosen (bytes_eq name (codes "journal")) (and_then (from_words ws) (λ f. Ok (Some (Journal f.conference f.from)))) _ journals
    (chosen (bytes_eq name (codes "watch")) (and_then (from_words ws) (λ f. Ok (Some (Watch f.conference f.from)))) _ watches
    (upon_name_written name ws)))))))

module _ (cuts : FirstWordsAreCutOff) (numbers : NumbersAreReadBack) (back : WordsAreReadBack) where
  -- a number is read back, and stands as one word
  number_back : (n : ℕ) → n < 2 ^ 32 → number_of (2 ^ 32) (decimal n) ≡ Ok n
  number_back n h = ap number_or_fault (numbers (2 ^ 32) n h (omega (arith, h))).value

  place_back : (n : ℕ) → n < 10 ^ 10 → number_of (10 ^ 10) (decimal n) ≡ Ok n
  place_back n h = ap number_or_fault (numbers (10 ^ 10) n h h).value

  plain_place : (n : ℕ) → n < 10 ^ 10 → is_plain (decimal n) ≡ true
  plain_place n h = (numbers (10 ^ 10) n h h).plain

  plain_number : (n : ℕ) → n < 2 ^ 32 → is_plain (decimal n) ≡ true
  plain_number n h = plain_place n (omega (arith, h))

  -- a line is read by its first word and the words behind it
  by_name : (name rest : List ℕ) (ws : List (List ℕ)) → is_plain name ≡ true → rest ≡ join_with_byte 32 ws → list_all is_plain ws ≡ true
      → own_of (name ++ (32 ∷ rest)) ≡ of_name name ws
  by_name name rest ws plain same all =
      ap (λ w. of_name w (words (behind_word (name ++ (32 ∷ rest))))) ((cuts name plain).first rest)
      ∙ ap (λ r. of_name name (words r)) ((cuts name plain).rest_behind rest)
      ∙ ap (λ r. of_name name (words r)) same
      ∙ ap (of_name name) (back ws all)

  one_plain : (n : ℕ) → n < 2 ^ 32 → list_all is_plain (decimal n ∷ []) ≡ true
  one_plain n h = both (is_plain (decimal n)) _ (plain_number n h) refl

  -- a line of a name and a conference
  conference_back : (name : List ℕ) (make : ℕ → Line) (c : ℕ) → is_plain name ≡ true → c < 2 ^ 32
      → ((ws : List (List ℕ)) → of_name name ws ≡ of_conference make ws)
      → own_of (name ++ (32 ∷ decimal c)) ≡ Ok (Some (make c))
  conference_back name make c plain h named =
      by_name name (decimal c) (decimal c ∷ []) plain refl (one_plain c h) ∙ named (decimal c ∷ [])
      ∙ ap (λ r. and_then r (λ n. Ok (Some (make n)))) (number_back c h)

  -- a line of a name, a conference and a place
  from_back : (name : List ℕ) (make : ℕ → Option ℕ → Line) (c : ℕ) (from : Option ℕ) → is_plain name ≡ true → c < 2 ^ 32 → IsPlace from
      → ((ws : List (List ℕ)) → of_name name ws ≡ and_then (from_words ws) (λ f. Ok (Some (make f.conference f.from))))
      → own_of (name ++ (32 ∷ (decimal c ++ printed_from from))) ≡ Ok (Some (make c from))
  from_back name make c None plain h k named =
      by_name name _ (decimal c ∷ []) plain (append-nil (decimal c)) (one_plain c h) ∙ named (decimal c ∷ [])
      ∙ rw (number_back c h) refl
  from_back name make c (Some place) plain h k named =
      by_name name _ (decimal c ∷ codes "from" ∷ decimal place ∷ []) plain refl
      (both (is_plain (decimal c)) _ (plain_number c h) (both (is_plain (decimal place)) _ (plain_place place k) refl))
      ∙ named (decimal c ∷ codes "from" ∷ decimal place ∷ [])
      ∙ rw (number_back c h, place_back place k) refl

  leave_back : (c n : ℕ) → c < 2 ^ 32 → n < 2 ^ 32 → own_of (printed (Leave c n)) ≡ Ok (Some (Leave c n))
  leave_back c n h k =
      by_name (codes "leave") _ (decimal c ∷ decimal n ∷ []) refl refl
      (both (is_plain (decimal c)) _ (plain_number c h) (both (is_plain (decimal n)) _ (plain_number n k) refl))
      ∙ rw (number_back c h, number_back n k) refl

  word_back : (c : ℕ) (key : List ℕ) (value : Option (List ℕ)) → c < 2 ^ 32 → is_plain key ≡ true → IsValue value
      → own_of (printed (Word c key value)) ≡ Ok (Some (Word c key value))
  word_back c key value h plain fits =
      by_name (codes "word") _ (decimal c ∷ key ∷ printed_value value ∷ []) refl refl
      (both (is_plain (decimal c)) _ (plain_number c h) (both (is_plain key) _ plain (both (is_plain (printed_value value)) _ (value_is_plain value fits) refl)))
      ∙ rw (number_back c h, value_is_read value fits) refl

  -- what can be printed as a line of the socket's own is read back
  pub own_back : (line : Line) → IsWritten line → own_of (printed line) ≡ Ok (Some line)
  own_back (Command command) h = absurd h
  own_back OpenHere h = absurd h
  own_back Listing h = refl
  own_back (Users c) h = conference_back (codes "users") Users c refl h (λ ws. refl)
  own_back (Members c) h = conference_back (codes "members") Members c refl h (λ ws. refl)
  own_back (Floors c) h = conference_back (codes "floors") Floors c refl h (λ ws. refl)
  own_back (Leave c n) (h, k) = leave_back c n h k
  own_back (Forget c) h = conference_back (codes "forget") Forget c refl h (λ ws. refl)
  own_back (Journal c from) (h, k) = from_back (codes "journal") Journal c from refl h k (λ ws. refl)
  own_back (Watch c from) (h, k) = from_back (codes "watch") Watch c from refl h k (λ ws. refl)
  own_back (Unwatch c) h = conference_back (codes "unwatch") Unwatch c refl h (λ ws. refl)
  own_back (Word c key value) (h, plain, fits) = word_back c key value h plain fits
  own_back (Words c) h = conference_back (codes "words") Words c refl h (λ ws. refl)
  own_back Metrics h = refl
  own_back Drain h = refl
