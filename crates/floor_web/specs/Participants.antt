-- Who takes part by a browser: the users of a configuration who have a token (RFC 8857, section 8, leaves to the web application how it knows a user).
use Rattle.std.specs.Prelude.{◌≡◌, ◌≢◌, ℕ, Bool, true, ◌&&◌, ◌||◌, ◌==◌, nat_le, List, [], ◌∷◌, ◌++◌, length, map, codes, bytes_eq, AllPairs, Contains, string_bytes, Option, Some, None, Result, Ok, Err, if◌then◌else◌}
use Rattle.std.specs.Char.{is_ascii_alphanumeric}
use Rattle.std.specs.List.{list_all, list_any}
use Rattle.toml.specs.Data.{Data, Items, no_items, item, Members, get, get_member, as_array, as_str}
use Rattle.toml.specs.Parse.{parse_document}
use Rattle.floor_config.specs.declared.fault.ConfigFault.{ConfigFault}
use Rattle.floor_config.specs.declared.fault.ConfigFault.TheVariants as Fault
use Rattle.floor_config.specs.declared.users.User.{User}
use Rattle.floor_config.specs.Configuration.{Configuration}
use Rattle.floor_config.specs.Names as names
use Rattle.floor_config.specs.Reading as config
use Rattle.floor_web.specs.declared.participants.Participant.{Participant}
use Rattle.floor_web.specs.declared.participants.ParticipantsFault.{ParticipantsFault}
use Rattle.floor_web.specs.declared.participants.ParticipantsFault.TheVariants.{Config, WeakToken, DoubleToken, NoToken, Memory}

-- the name of a fault
abbrev pub name_of : ParticipantsFault → List ℕ
name_of (Config fault) = names.name_of fault
name_of (WeakToken conference user) = codes "WeakToken"
name_of (DoubleToken conference user) = codes "DoubleToken"
name_of NoToken = codes "NoToken"
name_of Memory = codes "Memory"

-- ---- whom a token stands for

-- whoever has the token is this user of this conference, at this port where the user has one
pub record Bearer : Type 0 where
  pub token : List ℕ
  pub conference : ℕ
  pub user : ℕ
  pub port : Option ℕ

abbrev pub bearer : Participant → Bearer
bearer p = record { token = string_bytes p.token; conference = p.conference; user = p.user; port = p.port }

abbrev pub bearers : List Participant → List Bearer
bearers = map bearer

-- ---- tokens

-- a character of base64url: a letter, a digit, `-` or `_`
abbrev pub is_token_byte : ℕ → Bool
is_token_byte b = is_ascii_alphanumeric b || b == 45 || b == 95

abbrev pub has_token_bytes_alone : List ℕ → Bool
has_token_bytes_alone token = list_all is_token_byte token

-- a token of 128 bits at least, if it was drawn at random
abbrev pub is_strong : List ℕ → Bool
is_strong token = nat_le 22 (length token) && has_token_bytes_alone token

abbrev pub HasStrongToken : Bearer → Type 0
HasStrongToken b = is_strong b.token ≡ true

-- no two of them have one token
abbrev pub AllDiffer : List Bearer → Type 0
AllDiffer found = AllPairs (λ (a : Bearer) (b : Bearer). a.token ≢ b.token) found

-- ---- what is found, or the first fault

abbrev pub Found : Type 0
Found = Result (List Bearer) ParticipantsFault

-- the user with a token, which has to be strong
abbrev pub with_token : (conference : ℕ) → User → Option (List ℕ) → Found
with_token conference u None = Err (WeakToken conference u.id)
with_token conference u (Some token) = if is_strong token
    then Ok (record { token = token; conference = conference; user = u.id; port = u.port } ∷ [])
    else Err (WeakToken conference u.id)

-- the user by what stands at `token`; without it none
abbrev pub at_token : (conference : ℕ) → User → Option Data → Found
at_token conference u None = Ok []
at_token conference u (Some value) = with_token conference u (as_str value)

abbrev pub of_user : (conference : ℕ) → User → Data → Found
of_user conference u value = at_token conference u (get (codes "token") value)

-- what is found of the others, behind what was found; or the fault
abbrev pub behind_found : List Bearer → Found → Found
behind_found found (Ok others) = Ok (found ++ others)
behind_found found (Err fault) = Err fault

-- what is found first, and then of the others; or the first fault
abbrev pub then_found : Found → Found → Found
then_found (Ok found) others = behind_found found others
then_found (Err fault) others = Err fault

-- what is found of each with the table that it was read of, one after another
unfoldable pub each : {A : Type 0} → (A → Data → Found) → List A → Items → Found
each read [] values = Ok []
each read (x ∷ xs) no_items = Ok []
each read (x ∷ xs) (item value values) = then_found (read x value) (each read xs values)

abbrev pub or_none : Option Items → Items
or_none None = no_items
or_none (Some items) = items

-- the items of the array at a key; none where there is no array
abbrev pub items_of : Option Data → Items
items_of None = no_items
items_of (Some value) = or_none (as_array value)

abbrev pub of_conference : Configuration → Data → Found
of_conference c value = each (of_user c.conference) c.users (items_of (get (codes "user") value))

abbrev pub of_configs : List Configuration → Members → Found
of_configs configs document = each of_conference configs (items_of (get_member (codes "conference") document))

-- the first whose token another has behind it
unfoldable pub first_double : List Bearer → Option Bearer
first_double [] = None
first_double (b ∷ bs) = if list_any (λ (x : Bearer). bytes_eq x.token b.token) bs then Some b else first_double bs

abbrev pub unless_none : List Bearer → Found
unless_none [] = Err NoToken
unless_none (b ∷ bs) = Ok (b ∷ bs)

abbrev pub unless_double : Option Bearer → List Bearer → Found
unless_double (Some b) found = Err (DoubleToken b.conference b.user)
unless_double None found = unless_none found

abbrev pub checked : Found → Found
checked (Ok found) = unless_double (first_double found) found
checked (Err fault) = Err fault

abbrev pub with_configs : Members → Result (List Configuration) ConfigFault → Found
with_configs document (Ok configs) = checked (of_configs configs document)
with_configs document (Err fault) = Err (Config fault)

abbrev pub of_document : Option Members → Result (List Configuration) ConfigFault → Found
of_document None configs = Err (Config Fault.Syntax)
of_document (Some document) configs = with_configs document configs

-- The users of a configuration's text who have a token, in its order: the server reads the text as these conferences, and each has a strong token, and another one than the others.
unfoldable pub reading : List ℕ → Found
reading text = of_document (parse_document text) (config.reading text)

-- the fault is the one that was found, or memory was refused
abbrev pub Fails : ParticipantsFault → Found → Type 0
Fails Memory found = Unit {0}
Fails fault found = found ≡ Err fault

-- the call's participants are what was found, and so is its fault, unless memory was refused
abbrev pub Gives : Result (List Participant) ParticipantsFault → Found → Type 0
Gives (Ok participants) found = found ≡ Ok (bearers participants)
Gives (Err fault) found = Fails fault found

-- ---- what that means

-- The server's configuration has this user, with this port or none, in a conference of this number.
pub record IsUserOf (text : List ℕ) (b : Bearer) : Type 0 where
  pub configs : List Configuration
  pub conference : Configuration
  pub user : User
  pub read : config.reading text ≡ Ok configs
  pub has_conference : Contains configs conference
  pub has_user : Contains conference.users user
  pub number : b.conference ≡ conference.conference
  pub id : b.user ≡ user.id
  pub port : user.port ≡ b.port
