-- A table is read as what is built of its parts.
use Rattle.std.proofs.Common.{◌≡◌, ℕ, suc, Bool, true, false, not, cond, ◌&&◌, ◌||◌, ◌==◌, nat_le, List, [], ◌∷◌, length, map, Option, Some, None, Result, Ok, Err, option_and_then, refl, sym, ap, ◌∙◌}
use Rattle.std.specs.Prelude.{ℤ, pos, negsuc, codes, unwrap_or}
use Rattle.std.specs.List.{list_any, list_all}
use Rattle.std.proofs.lemmas.Bool.{and_parts}
use Rattle.toml.specs.Data.{Data, Members, as_integer, get_member}
use Rattle.floor_config.specs.declared.fault.ConfigFault.{ConfigFault}
use Rattle.floor_config.specs.declared.fault.ConfigFault.TheVariants.{OutOfRange, DoubleUser, DoubleFloor, UnknownChair}
use Rattle.floor_config.specs.declared.users.User.{User}
use Rattle.floor_config.specs.declared.floors.Floor.{Floor}
use Rattle.floor_config.specs.Doubles.{has_double}
use Rattle.floor_config.specs.Configuration.{Configuration, user_ids, floor_ids}
use Rattle.floor_config.specs.Limits.{is_within, unless_empty, is_known, chairs_are_known}
use Rattle.floor_config.specs.Outcome.{◌>>=◌}
use Rattle.floor_config.specs.Values.{of_kind, within, number_of, flag_of, tables_of, needed, optional, optional_text}
use Rattle.floor_config.specs.Reading.{user_of, floor_of, all_of, unless_double, users_of, floors_of, conference_of}
use Rattle.floor_config.specs.Building.{text_fits, port_fits, user_fits, users_fit, floor_fits, floors_fit, without_empty_texts, unless, built}
use Rattle.floor_config.specs.Parts.{any_text, short, user_part, floor_part, parts_at, parts_of, ReadIsBuilt}
use Rattle.floor_config.proofs.Plain.{user_ids-plain}

-- the value, if the test holds
abbrev Tested : {A : Type 0} → Bool → A → Result A ConfigFault
Tested b x = cond b (Ok x) (Err OutOfRange)

-- the first step of two that succeed succeeds
bound : {A B : Type 0} (x : Result A ConfigFault) (f : A → Result B ConfigFault) (y : B) → (x >>= f) ≡ Ok y → (a : A) × (x ≡ Ok a) × (f a ≡ Ok y)
bound (Ok a) f y e = (a, refl, e)
bound (Err fault) f y e = absurd (let no : ⊥ = cc in no)

abbrev okay : {A : Type 0} → A → Result A ConfigFault
okay x = Ok x

same_ok : {A : Type 0} (a b : A) → okay a ≡ okay b → a ≡ b
same_ok a b e = cc

within_any : (least most : ℕ) (i : ℤ) (n : ℕ) → within 0 65535 i ≡ Ok n → within least most i ≡ Tested (is_within least most n) n
within_any least most (pos m) n e = by_test (is_within 0 65535 m) e where
  by_test : (b : Bool) → cond b (Ok m) (Err OutOfRange) ≡ Ok n → cond (is_within least most m) (Ok m) (Err OutOfRange) ≡ Tested (is_within least most n) n
  by_test true e = ap (λ (k : ℕ). Tested (is_within least most k) k) (same_ok m n e)
  by_test false e = absurd (let no : ⊥ = cc in no)
within_any least most (negsuc m) n e = absurd (let no : ⊥ = cc in no)

within_short : (i : ℤ) (n : ℕ) → within 0 65535 i ≡ Ok n → nat_le n 65535 ≡ true
within_short (pos m) n e = by_test (is_within 0 65535 m) refl e where
  by_test : (b : Bool) → is_within 0 65535 m ≡ b → cond b (okay m) (Err OutOfRange) ≡ Ok n → nat_le n 65535 ≡ true
  by_test true f e = ap (λ (k : ℕ). nat_le k 65535) (sym (same_ok m n e)) ∙ (and_parts (nat_le 0 m) (nat_le m 65535) f).1
  by_test false f e = absurd (let no : ⊥ = cc in no)
within_short (negsuc m) n e = absurd (let no : ⊥ = cc in no)

number_any : (least most : ℕ) (v : Data) (n : ℕ) → short v ≡ Ok n → number_of least most v ≡ Tested (is_within least most n) n
number_any least most v n e = let p = bound (of_kind (as_integer v)) (within 0 65535) n e in
    rw p.1 (within_any least most p.0 n p.2)

number_short : (v : Data) (n : ℕ) → short v ≡ Ok n → nat_le n 65535 ≡ true
number_short v n e = let p = bound (of_kind (as_integer v)) (within 0 65535) n e in within_short p.0 n p.2

-- a number that may be absent, with a value that passes the test in its place
abbrev passes : ℕ → ℕ → Option ℕ → Bool
passes least most None = true
passes least most (Some n) = is_within least most n

tested_some : (b : Bool) (n : ℕ) → (Tested b n >>= λ x. Ok (Some x)) ≡ Tested b (Some n)
tested_some true n = refl
tested_some false n = refl

optional_any : (least most : ℕ) (o : Option Data) (n : Option ℕ) → optional short o ≡ Ok n → optional (number_of least most) o ≡ Tested (passes least most n) n
optional_any least most None n e = ap (λ (m : Option ℕ). Tested (passes least most m) m) (same_ok None n e)
optional_any least most (Some v) n e =
    let p = bound (short v) (λ x. Ok (Some x)) n e in
    rw (number_any least most v p.0 p.1) (tested_some (is_within least most p.0) p.0) ∙ ap (λ (m : Option ℕ). Tested (passes least most m) m) (same_ok (Some p.0) n p.2)

and_true : (b c : Bool) → c ≡ true → (b && c) ≡ b
and_true true c e = e
and_true false c e = refl

port_test : (o : Option Data) (n : Option ℕ) → optional short o ≡ Ok n → passes 1 65535 n ≡ port_fits n
port_test None n e = ap (passes 1 65535) (sym (same_ok None n e)) ∙ ap port_fits (same_ok None n e)
port_test (Some v) n e =
    let p = bound (short v) (λ x. Ok (Some x)) n e in
    ap (passes 1 65535) (sym (same_ok (Some p.0) n p.2)) ∙ and_true (nat_le 1 p.0) (nat_le p.0 65535) (number_short v p.0 p.1) ∙ ap port_fits (same_ok (Some p.0) n p.2)

port_any : (o : Option Data) (n : Option ℕ) → optional short o ≡ Ok n → optional (number_of 1 65535) o ≡ Tested (port_fits n) n
port_any o n e = optional_any 1 65535 o n e ∙ ap (λ (b : Bool). Tested b n) (port_test o n e)

text_any : (most : ℕ) (o : Option Data) (t : Option (List ℕ)) → optional any_text o ≡ Ok t → optional_text most o ≡ Tested (text_fits most t) (option_and_then unless_empty t)
text_any most None t e = ap (λ (m : Option (List ℕ)). Tested (text_fits most m) (option_and_then unless_empty m)) (same_ok None t e)
text_any most (Some v) t e =
    let p = bound (any_text v) (λ x. Ok (Some x)) t e in
    rw p.1 (ap (λ (m : Option (List ℕ)). Tested (text_fits most m) (option_and_then unless_empty m)) (same_ok (Some p.0) t p.2))

-- five steps, three of which are tests
user_steps : (id : ℕ) (name uri : Option (List ℕ)) (proxy : Option Bool) (port : Option ℕ) (a b c : Bool) → (do
  n ← Tested a (option_and_then unless_empty name)
  u ← Tested b (option_and_then unless_empty uri)
  x ← Ok proxy
  p ← Tested c port
  Ok (record { id = id; name = n; uri = u; proxy = unwrap_or x false; port = p })) ≡ Tested (a && (b && c)) (without_empty_texts (record { id = id; name = name; uri = uri; proxy = unwrap_or proxy false; port = port }))
user_steps id name uri proxy port true true true = refl
user_steps id name uri proxy port true true false = refl
user_steps id name uri proxy port true false c = refl
user_steps id name uri proxy port false b c = refl

abbrev made_user : ℕ → Option (List ℕ) → Option (List ℕ) → Option Bool → Option ℕ → User
made_user id name uri proxy port = record { id = id; name = name; uri = uri; proxy = unwrap_or proxy false; port = port }

user_read : (t : Members) (id : ℕ) (name uri : Option (List ℕ)) (proxy : Option Bool) (port : Option ℕ)
    → needed short (get_member (codes "id") t) ≡ Ok id → optional any_text (get_member (codes "name") t) ≡ Ok name
    → optional any_text (get_member (codes "uri") t) ≡ Ok uri → optional flag_of (get_member (codes "proxy") t) ≡ Ok proxy
    → optional short (get_member (codes "port") t) ≡ Ok port
    → user_of t ≡ Tested (user_fits (made_user id name uri proxy port)) (without_empty_texts (made_user id name uri proxy port))
unfolding user_of
user_read t id name uri proxy port a b c d f =
    rw (a, text_any 30 _ name b, text_any 62 _ uri c, d, port_any _ port f)
    (user_steps id name uri proxy port (text_fits 30 name) (text_fits 62 uri) (port_fits port))

user_any : (t : Members) (u : User) → user_part t ≡ Ok u → user_of t ≡ Tested (user_fits u) (without_empty_texts u)
unfolding user_part
user_any t u e =
    let a = bound _ _ u e in
    let b = bound _ _ u a.2 in
    let c = bound _ _ u b.2 in
    let d = bound _ _ u c.2 in
    let f = bound _ _ u d.2 in
    user_read t a.0 b.0 c.0 d.0 f.0 a.1 b.1 c.1 d.1 f.1
    ∙ ap (λ (x : User). Tested (user_fits x) (without_empty_texts x)) (same_ok _ u f.2)

room_test : (room : Option ℕ) → passes 1 255 room ≡ is_within 1 255 (unwrap_or room 1)
room_test None = refl
room_test (Some n) = refl

room_any : (o : Option Data) (room : Option ℕ) → optional short o ≡ Ok room → optional (number_of 1 255) o ≡ Tested (is_within 1 255 (unwrap_or room 1)) room
room_any o room e = optional_any 1 255 o room e ∙ ap (λ (b : Bool). Tested b room) (room_test room)

limit_test : (limit : Option ℕ) → passes 1 16 limit ≡ is_within 1 16 (unwrap_or limit 4)
limit_test None = refl
limit_test (Some n) = refl

connections_test : (connections : Option ℕ) → passes 1 64 connections ≡ is_within 1 64 (unwrap_or connections 64)
connections_test None = refl
connections_test (Some n) = refl

abbrev made_floor : ℕ → Option ℕ → Option ℕ → Floor
made_floor id room chair = record { id = id; room = unwrap_or room 1; chair = chair }

floor_steps : (id : ℕ) (room chair : Option ℕ) (a : Bool) → (do
  r ← Tested a room
  c ← Ok chair
  okay (made_floor id r c)) ≡ Tested a (made_floor id room chair)
floor_steps id room chair true = refl
floor_steps id room chair false = refl

floor_read : (t : Members) (id : ℕ) (room chair : Option ℕ)
    → needed short (get_member (codes "id") t) ≡ Ok id → optional short (get_member (codes "room") t) ≡ Ok room
    → optional short (get_member (codes "chair") t) ≡ Ok chair
    → floor_of t ≡ Tested (floor_fits (made_floor id room chair)) (made_floor id room chair)
unfolding floor_of
floor_read t id room chair a b c = rw (a, room_any _ room b, c) (floor_steps id room chair (is_within 1 255 (unwrap_or room 1)))

floor_any : (t : Members) (f : Floor) → floor_part t ≡ Ok f → floor_of t ≡ Tested (floor_fits f) f
unfolding floor_part
floor_any t f e =
    let a = bound _ _ f e in
    let b = bound _ _ f a.2 in
    let c = bound _ _ f b.2 in
    floor_read t a.0 b.0 c.0 a.1 b.1 c.1 ∙ ap (λ (x : Floor). Tested (floor_fits x) x) (same_ok _ f c.2)

more_steps : {A : Type 0} (b c : Bool) (x : A) (xs : List A) → (do
  first ← Tested b x
  others ← Tested c xs
  Ok (first ∷ others)) ≡ Tested (b && c) (x ∷ xs)
more_steps true true x xs = refl
more_steps true false x xs = refl
more_steps false c x xs = refl

-- each table of a list is read as its part, if that passes the test
all_any : {A : Type 0} (part read : Members → Result A ConfigFault) (test : A → Bool) (f : A → A)
    → ((t : Members) (x : A) → part t ≡ Ok x → read t ≡ Tested (test x) (f x))
    → (ts : List Members) (xs : List A) → all_of part ts ≡ Ok xs → all_of read ts ≡ Tested (list_all test xs) (map f xs)
unfolding all_of
all_any part read test f each [] xs e = ap (λ (ys : List _). Tested (list_all test ys) (map f ys)) (same_ok [] xs e)
all_any part read test f each (t ∷ ts) xs e =
    let a = bound (part t) _ xs e in
    let b = bound (all_of part ts) _ xs a.2 in
    rw (each t a.0 a.1, all_any part read test f each ts b.0 b.1) (more_steps (test a.0) (list_all test b.0) (f a.0) (map f b.0))
    ∙ ap (λ (ys : List _). Tested (list_all test ys) (map f ys)) (same_ok (a.0 ∷ b.0) xs b.2)

-- as many as there are tables
as_many : {A : Type 0} (part : Members → Result A ConfigFault) (ts : List Members) (xs : List A) → all_of part ts ≡ Ok xs → length ts ≡ length xs
unfolding all_of
as_many part [] xs e = ap length (same_ok [] xs e)
as_many part (t ∷ ts) xs e =
    let a = bound (part t) _ xs e in
    let b = bound (all_of part ts) _ xs a.2 in
    ap suc (as_many part ts b.0 b.1) ∙ ap length (same_ok (a.0 ∷ b.0) xs b.2)

-- the fault that comes first, or the value
abbrev checked : {A : Type 0} → Bool → Bool → ConfigFault → A → Result A ConfigFault
checked fits double fault x = cond fits (cond double (Err fault) (Ok x)) (Err OutOfRange)

count_steps : {A : Type 0} (read : Members → Result A ConfigFault) (fault : ConfigFault) (ids : List A → List ℕ) (ts : List Members) (b fits : Bool) (xs : List A)
    → all_of read ts ≡ Tested fits xs → (do
      tables ← cond b (okay ts) (Err OutOfRange)
      found ← all_of read tables
      unless_double fault (ids found) found) ≡ checked (b && fits) (has_double (ids xs)) fault xs
count_steps read fault ids ts true true xs h = rw h refl
count_steps read fault ids ts true false xs h = rw h refl
count_steps read fault ids ts false fits xs h = refl

users_found : (v : Data) (ts : List Members) (us : List User) → tables_of v ≡ Ok ts → all_of user_part ts ≡ Ok us
    → users_of (Some v) ≡ checked (users_fit us) (has_double (user_ids us)) DoubleUser (map without_empty_texts us)
unfolding users_of
users_found v ts us found read =
    let steps = count_steps user_of DoubleUser user_ids ts (nat_le (length ts) 256) (list_all user_fits us) (map without_empty_texts us)
    (all_any user_part user_of user_fits without_empty_texts user_any ts us read) in
    let first : users_of (Some v)
    ≡ checked (nat_le (length ts) 256 && list_all user_fits us) (has_double (user_ids (map without_empty_texts us))) DoubleUser (map without_empty_texts us)
    = rw found steps in
    first
    ∙ ap (λ (n : ℕ). checked (nat_le n 256 && list_all user_fits us) (has_double (user_ids (map without_empty_texts us))) DoubleUser (map without_empty_texts us)) (as_many user_part ts us read)
    ∙ ap (λ (ids : List ℕ). checked (users_fit us) (has_double ids) DoubleUser (map without_empty_texts us)) (user_ids-plain us)

users_any : (o : Option Data) (us : List User) → parts_at user_part o ≡ Ok us
    → users_of o ≡ checked (users_fit us) (has_double (user_ids us)) DoubleUser (map without_empty_texts us)
unfolding users_of
users_any None us e = ap (λ (ys : List User). checked (users_fit ys) (has_double (user_ids ys)) DoubleUser (map without_empty_texts ys)) (same_ok [] us e)
users_any (Some v) us e = let p = bound (tables_of v) (all_of user_part) us e in users_found v p.0 us p.1 p.2

map_same : (fs : List Floor) → map (λ f. f) fs ≡ fs
map_same [] = refl
map_same (f ∷ fs) = ap (λ (l : List Floor). f ∷ l) (map_same fs)

floors_found : (v : Data) (ts : List Members) (fs : List Floor) → tables_of v ≡ Ok ts → all_of floor_part ts ≡ Ok fs
    → floors_of (Some v) ≡ checked (floors_fit fs) (has_double (floor_ids fs)) DoubleFloor fs
unfolding floors_of
floors_found v ts fs found read =
    let each = all_any floor_part floor_of floor_fits (λ f. f) floor_any ts fs read ∙ ap (λ (ys : List Floor). Tested (list_all floor_fits fs) ys) (map_same fs) in
    let steps = count_steps floor_of DoubleFloor floor_ids ts (nat_le (length ts) 32) (list_all floor_fits fs) fs each in
    let first : floors_of (Some v) ≡ checked (nat_le (length ts) 32 && list_all floor_fits fs) (has_double (floor_ids fs)) DoubleFloor fs = rw found steps in
    first ∙ ap (λ (n : ℕ). checked (nat_le n 32 && list_all floor_fits fs) (has_double (floor_ids fs)) DoubleFloor fs) (as_many floor_part ts fs read)

floors_any : (o : Option Data) (fs : List Floor) → parts_at floor_part o ≡ Ok fs
    → floors_of o ≡ checked (floors_fit fs) (has_double (floor_ids fs)) DoubleFloor fs
unfolding floors_of
floors_any None fs e = ap (λ (ys : List Floor). checked (floors_fit ys) (has_double (floor_ids ys)) DoubleFloor ys) (same_ok [] fs e)
floors_any (Some v) fs e = let p = bound (tables_of v) (all_of floor_part) fs e in floors_found v p.0 fs p.1 p.2

any_plain : (users : List User) (chair : ℕ) → list_any (λ u. u.id == chair) (map without_empty_texts users) ≡ list_any (λ u. u.id == chair) users
any_plain [] chair = refl
any_plain (u ∷ users) chair = ap (λ (b : Bool). (u.id == chair) || b) (any_plain users chair)

known_plain : (users : List User) (chair : Option ℕ) → is_known (map without_empty_texts users) chair ≡ is_known users chair
known_plain users None = refl
known_plain users (Some chair) = any_plain users chair

-- a text of a user says nothing of a chair
chairs_plain : (users : List User) (floors : List Floor) → chairs_are_known (map without_empty_texts users) floors ≡ chairs_are_known users floors
chairs_plain users [] = refl
chairs_plain users (f ∷ floors) = rw (known_plain users f.chair, chairs_plain users floors) refl

limit_any : (o : Option Data) (limit : Option ℕ) → optional short o ≡ Ok limit → optional (number_of 1 16) o ≡ Tested (is_within 1 16 (unwrap_or limit 4)) limit
limit_any o limit e = optional_any 1 16 o limit e ∙ ap (λ (b : Bool). Tested b limit) (limit_test limit)

connections_any : (o : Option Data) (connections : Option ℕ) → optional short o ≡ Ok connections
    → optional (number_of 1 64) o ≡ Tested (is_within 1 64 (unwrap_or connections 64)) connections
connections_any o connections e = optional_any 1 64 o connections e ∙ ap (λ (b : Bool). Tested b connections) (connections_test connections)

abbrev made : ℕ → Option ℕ → Option ℕ → List User → List Floor → Configuration
made id limit connections users floors = record { conference = id; limit = unwrap_or limit 4; connections = unwrap_or connections 64; users = users; floors = floors }

-- the checks of a conference, in their order
conference_steps : (id : ℕ) (limit connections : Option ℕ) (us : List User) (fs : List Floor) (a b u du f df c : Bool) → chairs_are_known us fs ≡ c → (do
  l ← Tested a limit
  n ← Tested b connections
  users ← checked u du DoubleUser us
  floors ← checked f df DoubleFloor fs
  cond (chairs_are_known users floors) (okay (made id l n users floors)) (Err UnknownChair)) ≡ (do
    limit_fits ← unless a OutOfRange
    connections_fit ← unless b OutOfRange
    users_fit ← unless u OutOfRange
    users_differ ← unless (not du) DoubleUser
    floors_fit ← unless f OutOfRange
    floors_differ ← unless (not df) DoubleFloor
    chairs_known ← unless c UnknownChair
    okay (made id limit connections us fs))
conference_steps id limit connections us fs false b u du f df c h = refl
conference_steps id limit connections us fs true false u du f df c h = refl
conference_steps id limit connections us fs true true false du f df c h = refl
conference_steps id limit connections us fs true true true true f df c h = refl
conference_steps id limit connections us fs true true true false false df c h = refl
conference_steps id limit connections us fs true true true false true true c h = refl
conference_steps id limit connections us fs true true true false true false true h = rw h refl
conference_steps id limit connections us fs true true true false true false false h = rw h refl

conference_read : (t : Members) (id : ℕ) (limit connections : Option ℕ) (us : List User) (fs : List Floor)
    → needed (number_of 0 4294967295) (get_member (codes "id") t) ≡ Ok id → optional short (get_member (codes "limit") t) ≡ Ok limit
    → optional short (get_member (codes "connections") t) ≡ Ok connections
    → parts_at user_part (get_member (codes "user") t) ≡ Ok us → parts_at floor_part (get_member (codes "floor") t) ≡ Ok fs
    → conference_of t ≡ built id (unwrap_or limit 4) (unwrap_or connections 64) us fs
unfolding conference_of built
conference_read t id limit connections us fs a b n c d =
    rw (a, limit_any _ limit b, connections_any _ connections n, users_any _ us c, floors_any _ fs d)
    (conference_steps id limit connections (map without_empty_texts us) fs (is_within 1 16 (unwrap_or limit 4)) (is_within 1 64 (unwrap_or connections 64)) (users_fit us) (has_double (user_ids us))
    (floors_fit fs) (has_double (floor_ids fs)) (chairs_are_known us fs) (chairs_plain us fs))

pub read_is_built : ReadIsBuilt
unfolding parts_of
read_is_built table parts e =
    let a = bound _ _ parts e in
    let b = bound _ _ parts a.2 in
    let c = bound _ _ parts b.2 in
    let d = bound _ _ parts c.2 in
    let f = bound _ _ parts d.2 in
    conference_read table a.0 b.0 c.0 d.0 f.0 a.1 b.1 c.1 d.1 f.1
    ∙ ap (λ (p : Configuration). built p.conference p.limit p.connections p.users p.floors) (same_ok _ parts f.2)
