-- The forms of the lines that add a user or a floor, by the places of their words.
use Rattle.std.specs.Prelude.{ℕ, Bool, true, false, ◌&&◌, Option, Some, None, List, [], ◌∷◌, codes, if◌then◌else◌}
use Rattle.std.specs.Str.{bytes_eq}
use Rattle.floor_words.specs.Words.{behind_word, first_word, from_first_word, is_word}

-- the words of a `user` line, and the text that is the name
pub record UserForm : Type 0 where
  pub conference : List ℕ
  pub id : List ℕ
  pub proxy : Bool
  pub port : Option (List ℕ)
  pub name : Option (List ℕ)

-- the words of a `floor` line
pub record FloorForm : Type 0 where
  pub conference : List ℕ
  pub id : List ℕ
  pub room : Option (List ℕ)
  pub chair : Option (List ℕ)

-- the text's first word is this one
abbrev pub begins_with : List ℕ → List ℕ → Bool
begins_with word text = bytes_eq (first_word text) word

-- `proxy`, or nothing; and what is left of the text
abbrev pub proxy_form : List ℕ → Bool × List ℕ
proxy_form text = if begins_with (codes "proxy") text then (true, behind_word text) else (false, text)

-- a word, which has to be there, and what is left of the text
abbrev pub word_form : List ℕ → Option (Option (List ℕ) × List ℕ)
word_form text = if is_word (first_word text) then Some (Some (first_word text), behind_word text) else None

-- `port` and a word, or nothing; and what is left of the text
abbrev pub port_form : List ℕ → Option (Option (List ℕ) × List ℕ)
port_form text = if begins_with (codes "port") text then word_form (behind_word text) else Some (None, text)

-- a text, which has to be there
abbrev pub text_form : List ℕ → Option (Option (List ℕ))
text_form [] = None
text_form (b ∷ text) = Some (Some (b ∷ text))

-- `name` and the text from the next word to the end, its spaces as they are; or nothing
abbrev pub name_form : List ℕ → Option (Option (List ℕ))
name_form text =
    if is_word (first_word text) then (if begins_with (codes "name") text then text_form (from_first_word (behind_word text)) else None)
    else Some None

abbrev pub with_name : UserForm → Option (Option (List ℕ)) → Option UserForm
with_name form (Some name) = Some (record form { name = name })
with_name form None = None

abbrev pub with_port : List ℕ → List ℕ → Bool → Option (Option (List ℕ) × List ℕ) → Option UserForm
with_port conference id proxy (Some (port, rest)) =
    with_name (record { conference = conference; id = id; proxy = proxy; port = port; name = None }) (name_form rest)
with_port conference id proxy None = None

abbrev pub with_options : List ℕ → List ℕ → Bool × List ℕ → Option UserForm
with_options conference id (proxy, rest) = with_port conference id proxy (port_form rest)

-- behind `user`: `<conference> <id> [proxy] [port <port>] [name <text to the end>]`
abbrev pub user_form : List ℕ → Option UserForm
user_form text =
    if is_word (first_word (behind_word text))
    then with_options (first_word text) (first_word (behind_word text)) (proxy_form (behind_word (behind_word text)))
    else None

-- a word behind the name of an option, or two options
abbrev pub option_form : List ℕ → List ℕ → List ℕ → List ℕ → Option FloorForm
option_form conference id name word =
    if bytes_eq name (codes "room") then Some record { conference = conference; id = id; room = Some word; chair = None }
    else if bytes_eq name (codes "chair") then Some record { conference = conference; id = id; room = None; chair = Some word }
    else None

abbrev pub options_form : List ℕ → List ℕ → List ℕ → List ℕ → List ℕ → List ℕ → Option FloorForm
options_form conference id first room second chair =
    if bytes_eq first (codes "room") && bytes_eq second (codes "chair")
    then Some record { conference = conference; id = id; room = Some room; chair = Some chair }
    else None

-- behind `floor`: `<conference> <id> [room <room>] [chair <user>]`
abbrev pub floor_form : List (List ℕ) → Option FloorForm
floor_form (conference ∷ id ∷ []) = Some record { conference = conference; id = id; room = None; chair = None }
floor_form (conference ∷ id ∷ name ∷ word ∷ []) = option_form conference id name word
floor_form (conference ∷ id ∷ first ∷ room ∷ second ∷ chair ∷ []) = options_form conference id first room second chair
floor_form _ = None
