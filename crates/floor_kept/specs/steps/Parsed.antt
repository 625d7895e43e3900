-- What the words of a line say, before they are printed again and compared.
use Rattle.std.specs.Prelude.{ℕ, ◌^◌, ◌==◌, Bool, true, false, not, List, [], ◌∷◌, ◌++◌, length, codes, Option, Some, None, if◌then◌else◌}
use Rattle.std.specs.Result.{result_ok}
use Rattle.std.specs.Str.{bytes_eq, is_utf8}
use Rattle.hex.specs.Hex.{decode_of}
use Rattle.floor_words.specs.Words.{number}
use Rattle.floor_wire.specs.Message.{message_len}
use Rattle.floor_machine.specs.declared.event.Event.{Event}
use Rattle.floor_machine.specs.declared.event.Event.TheVariants.{Join, Message, Took, Leave, Revoke, Close, AddUser, AddFloor, SetChair, Say}
use Rattle.std.specs.List.{list_all}
use Rattle.floor_words.specs.Words.{is_space}
use Rattle.floor_kept.specs.Entries.{entry_line, is_key, is_within}
use Rattle.floor_kept.specs.declared.entry.Entry.{Entry}
use Rattle.floor_kept.specs.declared.entry.Entry.TheVariants.{Happened, Port, Word, End}

-- what follows from a part of a line, where the part says something
abbrev pub and_then : {A B : Type 0} → Option A → (A → Option B) → Option B
and_then (Some part) next = next part
and_then None next = None

-- no byte of it is a space
abbrev pub has_no_space : List ℕ → Bool
has_no_space key = list_all (λ b. not (is_space b)) key

abbrev pub has_no_line_feed : List ℕ → Bool
has_no_line_feed key = list_all (λ b. not (b == 10)) key

-- the bytes of a word of hexadecimal
abbrev pub bytes_of : List ℕ → Option (List ℕ)
bytes_of word = result_ok (decode_of word)

-- the value, unless the word stands for none
abbrev pub unless_none : {A : Type 0} → List ℕ → Option A → Option (Option A)
unless_none word read = if bytes_eq word (codes "-") then Some None else and_then read (λ value. Some (Some value))

-- bytes that are some
abbrev pub some_bytes : List ℕ → Option (List ℕ)
some_bytes bytes = if length bytes == 0 then None else Some bytes

-- bytes in UTF-8 that are some
abbrev pub text_of : List ℕ → Option (List ℕ)
text_of bytes = if is_utf8 bytes then some_bytes bytes else None

-- bytes that are one message
abbrev pub message_of : List ℕ → Option (List ℕ)
message_of bytes = if length bytes == message_len bytes then Some bytes else None

abbrev pub text_where : List ℕ → Option (Option (List ℕ))
text_where word = unless_none word (and_then (bytes_of word) text_of)

abbrev pub number_where : List ℕ → Option (Option ℕ)
number_where word = unless_none word (number (2 ^ 16) word)

abbrev pub mark_of : List ℕ → Option Bool
mark_of word = if bytes_eq word (codes "1") then Some true else if bytes_eq word (codes "0") then Some false else None

-- behind the place: `close`
abbrev pub one_word : List ℕ → Option Event
one_word name = if bytes_eq name (codes "close") then Some Close else None

-- `join <user>`, `leave <n>`, `revoke <request>`
abbrev pub two_words : List ℕ → List ℕ → Option Event
two_words name word =
    if bytes_eq name (codes "join") then and_then (number (2 ^ 16) word) (λ user. Some (Join user))
    else if bytes_eq name (codes "leave") then and_then (number (2 ^ 32) word) (λ n. Some (Leave n))
    else if bytes_eq name (codes "revoke") then and_then (number (2 ^ 16) word) (λ request. Some (Revoke request))
    else None

abbrev pub message_words : List ℕ → List ℕ → Option Event
message_words first second =
    and_then (number (2 ^ 32) first) (λ n. and_then (and_then (bytes_of second) message_of) (λ bytes. Some (Message n bytes)))

abbrev pub say_words : List ℕ → List ℕ → Option Event
say_words first second =
    and_then (number (2 ^ 16) first) (λ user. and_then (and_then (bytes_of second) message_of) (λ bytes. Some (Say user bytes)))

abbrev pub took_words : List ℕ → List ℕ → Option Event
took_words first second = and_then (number (2 ^ 32) first) (λ n. and_then (number (2 ^ 32) second) (λ k. Some (Took n k)))

abbrev pub chair_words : List ℕ → List ℕ → Option Event
chair_words first second =
    and_then (number (2 ^ 16) first) (λ floor. and_then (number_where second) (λ chair. Some (SetChair floor chair)))

-- `message <n> <bytes>`, `took <n> <k>`, `chair <floor> <user>`, `say <user> <bytes>`
abbrev pub three_words : List ℕ → List ℕ → List ℕ → Option Event
three_words name first second =
    if bytes_eq name (codes "message") then message_words first second
    else if bytes_eq name (codes "took") then took_words first second
    else if bytes_eq name (codes "chair") then chair_words first second
    else if bytes_eq name (codes "say") then say_words first second
    else None

-- `floor <id> <room> <chair>`
abbrev pub floor_words : List ℕ → List ℕ → List ℕ → List ℕ → Option Event
floor_words name first second third =
    if bytes_eq name (codes "floor")
    then and_then (number (2 ^ 16) first) (λ id.
    and_then (number (2 ^ 16) second) (λ room.
    and_then (number_where third) (λ chair. Some (AddFloor record { id = id; room = room; chair = chair }))))
    else None

-- `user <id> <proxy> <name> <uri>`
abbrev pub user_words : List ℕ → List ℕ → List ℕ → List ℕ → List ℕ → Option Event
user_words name first second third fourth =
    if bytes_eq name (codes "user")
    then and_then (number (2 ^ 16) first) (λ id.
    and_then (mark_of second) (λ proxy.
    and_then (text_where third) (λ name.
    and_then (text_where fourth) (λ uri. Some (AddUser record { id = id; name = name; uri = uri; proxy = proxy; port = None })))))
    else None

-- the event of the words behind the first, which is the place
abbrev pub event_words : List (List ℕ) → Option Event
event_words (name ∷ []) = one_word name
event_words (name ∷ a ∷ []) = two_words name a
event_words (name ∷ a ∷ b ∷ []) = three_words name a b
event_words (name ∷ a ∷ b ∷ c ∷ []) = floor_words name a b c
event_words (name ∷ a ∷ b ∷ c ∷ d ∷ []) = user_words name a b c d
event_words _ = None

abbrev pub port_words : List ℕ → List ℕ → Option Entry
port_words first second = and_then (number (2 ^ 16) first) (λ user. and_then (number (2 ^ 16) second) (λ port. Some (Port user port)))

abbrev pub octets_where : List ℕ → Option (Option (List ℕ))
octets_where word = unless_none word (and_then (bytes_of word) some_bytes)

abbrev pub word_words : List ℕ → List ℕ → Option Entry
word_words key second = if is_key key then and_then (octets_where second) (λ value. Some (Word key value)) else None

-- behind `#`: `port <user> <port>`, `word <key> <octets>`
abbrev pub note_words : List (List ℕ) → Option Entry
note_words (name ∷ a ∷ b ∷ []) =
    if bytes_eq name (codes "port") then port_words a b
    else if bytes_eq name (codes "word") then word_words a b
    else None
note_words _ = None

abbrev pub happened : Option Event → Option Entry
happened found = and_then found (λ e. Some (Happened e))

-- the entry of words, by the first of them
abbrev pub entry_words : List (List ℕ) → Option Entry
entry_words [] = None
entry_words (first ∷ rest) =
    if bytes_eq first (codes "#") then note_words rest
    else if bytes_eq first (codes "end") then Some End
    else happened (event_words rest)

-- the entry, where a journal may have it at this place and this is its line
abbrev pub checked : ℕ → List ℕ → Entry → Option Entry
checked place text entry =
    if is_within place entry then (if bytes_eq (entry_line place entry) (text ++ codes "\n") then Some entry else None) else None
