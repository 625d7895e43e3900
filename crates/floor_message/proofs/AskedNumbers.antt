-- What a message of bytes asks has numbers of 16 bits.
use Rattle.std.proofs.Common.{◌≡◌, ℕ, zero, suc, ◌+◌, ◌^◌, ◌<◌, Bool, true, false, cond, List, [], ◌∷◌, drop, length, map, filter, get_or, Option, Some, None, refl, sym, subst, arith}
use Rattle.std.specs.Prelude.{IfSome, not, ◌==◌, option_map, option_and_then}
use Rattle.std.specs.List.{cons_option}
use Rattle.std.proofs.lemmas.List.{get_or-drop}
use Rattle.floor_wire.specs.Attributes.{Content, num, pair, group, octets, Attributes, no_attributes, attribute}
use Rattle.floor_wire.specs.Bytes.{IsBytes}
use Rattle.floor_wire.specs.Spelled.{spelled}
use Rattle.floor_wire.specs.Spelling.{Spells, IsWritable, IsWritableContent}
use Rattle.floor_wire.specs.View.{items, content_of, body_of}
use Rattle.floor_wire.specs.declared.attribute.Attr.{Attr}
use Rattle.floor_wire.specs.declared.attribute.Body.{Body}
use Rattle.floor_wire.specs.declared.attribute.Body.TheVariants.{Num, Pair, Group, Octets}
use Rattle.floor_message.specs.Ask.{ask, asks}
use Rattle.floor_message.specs.Binding.{Binding}
use Rattle.floor_message.specs.Fields.{is_ask, fields, floor_request, priority_asked, given, chair_action, chair_asked, floors_judged, judged, overall_status, reason_kept}
use Rattle.floor_message.specs.Fits.{AskNumbersFit}
use Rattle.floor_message.specs.Picked.{first, numbers, pairs, octet_strings, groups, distinct, once_by, if_kind, number_in, group_in}
use Rattle.floor_message.specs.Text.{text_kept}
use Rattle.floor_message.specs.declared.primitive.Primitive.{Primitive}
use Rattle.floor_message.specs.declared.primitive.Primitive.TheVariants as primitive
use Rattle.floor_message.specs.declared.verdicts.Verdict.{Verdict}
use Rattle.floor_message.specs.declared.ask.Ask.{Ask}
use Rattle.floor_message.specs.declared.ask.Ask.TheVariants.{FloorRequest, FloorRelease, FloorRequestQuery, UserQuery, FloorQuery, ChairAction, Hello}
use Rattle.floor_message.proofs.Asked.{asked_stands, given_front}

-- the number is of 16 bits
abbrev Short : ℕ → Type 0
Short n = n < 2 ^ 16

-- the number of each is so
abbrev AreShort : {A : Type 0} → (A → ℕ) → List A → Type 0
AreShort key [] = Unit {0}
AreShort key (x ∷ xs) = Short (key x) × AreShort key xs

short_at : {A : Type 0} (key : A → ℕ) (xs : List A) → AreShort key xs → (k : ℕ) (d : A) → k < length xs → Short (key (get_or xs k d))
short_at key [] h k d l = absurd (omega arith)
short_at key (x ∷ xs) h zero d l = h.0
short_at key (x ∷ xs) h (suc k) d l = short_at key xs h.1 k d (omega arith)

short_first : {A : Type 0} (key : A → ℕ) (xs : List A) → AreShort key xs → IfSome (first xs) (λ x. Short (key x))
short_first key [] h = tt
short_first key (x ∷ xs) h = h.0

short_cons : {A : Type 0} (key : A → ℕ) (o : Option A) (xs : List A) → IfSome o (λ x. Short (key x)) → AreShort key xs → AreShort key (cons_option o xs)
short_cons key None xs h hs = hs
short_cons key (Some x) xs h hs = (h, hs)

short_kept : {A : Type 0} (key : A → ℕ) (b : Bool) (x : A) (xs : List A) → Short (key x) → AreShort key xs → AreShort key (cond b (x ∷ xs) xs)
short_kept key true x xs h hs = (h, hs)
short_kept key false x xs h hs = hs

short_filter : {A : Type 0} (key : A → ℕ) (p : A → Bool) (xs : List A) → AreShort key xs → AreShort key (filter p xs)
short_filter key p [] h = tt
short_filter key p (x ∷ xs) h = short_kept key (p x) x (filter p xs) h.0 (short_filter key p xs h.1)

short_once : {A : Type 0} (key : A → ℕ) (xs : List A) → AreShort key xs → AreShort key (once_by key xs)
short_once key [] h = tt
short_once key (x ∷ xs) h = (h.0, short_filter key (λ y. not (key y == key x)) (once_by key xs) (short_once key xs h.1))

-- the attributes of a list can be written
abbrev AreWritable : List Attr → Type 0
AreWritable [] = Unit {0}
AreWritable (a ∷ attrs) = IsWritableContent (content_of a.body) × AreWritable attrs

content_back : (c : Content) → content_of (body_of c) ≡ c
content_back (num n) = refl
content_back (pair a b) = refl
content_back (group n inside) = refl
content_back (octets os) = refl

items_writable : (a : Attributes) → IsWritable a → AreWritable (items a)
items_writable no_attributes w = tt
items_writable (attribute kind must c rest) w = (subst IsWritableContent (sym (content_back c)) w.3, items_writable rest w.4)

number_short : (b : Bool) (a : Attr) → IsWritableContent (content_of a.body) → IfSome (cond b (number_in a.body) None) Short
number_short false a w = tt
number_short true a w = by_body a.body w where
  by_body : (body : Body) → IsWritableContent (content_of body) → IfSome (number_in body) Short
  by_body (Num n) w = w
  by_body (Pair a b) w = tt
  by_body (Group n inside) w = tt
  by_body (Octets os) w = tt

numbers_short : (kind : ℕ) (attrs : List Attr) → AreWritable attrs → AreShort (λ n. n) (numbers kind attrs)
numbers_short kind [] w = tt
numbers_short kind (a ∷ attrs) w = short_cons (λ n. n) (if_kind number_in kind a) (numbers kind attrs) (number_short (a.kind == kind) a w.0) (numbers_short kind attrs w.1)

-- the number of a group is of 16 bits, and what is inside can be written
abbrev IsFine : ℕ × List Attr → Type 0
IsFine g = Short g.0 × AreWritable g.1

abbrev AreFine : List (ℕ × List Attr) → Type 0
AreFine [] = Unit {0}
AreFine (g ∷ gs) = IsFine g × AreFine gs

fine_cons : (o : Option (ℕ × List Attr)) (gs : List (ℕ × List Attr)) → IfSome o IsFine → AreFine gs → AreFine (cons_option o gs)
fine_cons None gs h hs = hs
fine_cons (Some g) gs h hs = (h, hs)

group_fine : (b : Bool) (a : Attr) → IsWritableContent (content_of a.body) → IfSome (cond b (group_in a.body) None) IsFine
group_fine false a w = tt
group_fine true a w = by_body a.body w where
  by_body : (body : Body) → IsWritableContent (content_of body) → IfSome (group_in body) IsFine
  by_body (Num n) w = tt
  by_body (Pair a b) w = tt
  by_body (Group n inside) w = (w.0, items_writable inside w.1)
  by_body (Octets os) w = tt

groups_fine : (kind : ℕ) (attrs : List Attr) → AreWritable attrs → AreFine (groups kind attrs)
groups_fine kind [] w = tt
groups_fine kind (a ∷ attrs) w = fine_cons (if_kind group_in kind a) (groups kind attrs) (group_fine (a.kind == kind) a w.0) (groups_fine kind attrs w.1)

judged_short : (overall : Option ℕ) (gs : List (ℕ × List Attr)) → AreFine gs → AreShort (λ v. v.0) (map (judged overall) gs)
judged_short overall [] h = tt
judged_short overall (g ∷ gs) h = (h.0.0, judged_short overall gs h.1)

given_short : (xs : List (ℕ × Option Verdict)) (vs : List (ℕ × Verdict)) → given xs ≡ Some vs → AreShort (λ v. v.0) xs → AreShort (λ v. v.0) vs
given_short [] vs e h = let same : [] ≡ vs = cc in let P : List (ℕ × Verdict) → Type 0 = λ l. AreShort (λ v. v.0) l in subst P same tt
given_short (x ∷ xs) vs e h =
    let g = given_front x.0 x.1 (given xs) vs e in
    let P : List (ℕ × Verdict) → Type 0 = λ l. AreShort (λ v. v.0) l in
    subst P g.all_is (h.0, given_short xs g.rest g.rest_is h.1)

request_short : (floors : List ℕ) (b : Option ℕ) (priority : ℕ) (kept : Option (Option (List ℕ))) (a : Ask) → AreShort (λ n. n) floors → IfSome b Short
    → floor_request floors b priority kept ≡ Some a → AskNumbersFit a
request_short [] b priority kept a h hb e = absurd (let no : ⊥ = cc in no)
request_short (f ∷ floors) b priority None a h hb e = absurd (let no : ⊥ = cc in no)
request_short (f ∷ floors) b priority (Some info) a h hb e =
    let same : FloorRequest b (f ∷ floors) priority info ≡ a = cc in
    subst AskNumbersFit same (hb, short_at (λ n. n) (f ∷ floors) h)

release_short : (o : Option ℕ) (a : Ask) → IfSome o Short → option_map FloorRelease o ≡ Some a → AskNumbersFit a
release_short None a h e = absurd (let no : ⊥ = cc in no)
release_short (Some r) a h e = let same : FloorRelease r ≡ a = cc in subst AskNumbersFit same h

query_short : (o : Option ℕ) (a : Ask) → IfSome o Short → option_map FloorRequestQuery o ≡ Some a → AskNumbersFit a
query_short None a h e = absurd (let no : ⊥ = cc in no)
query_short (Some r) a h e = let same : FloorRequestQuery r ≡ a = cc in subst AskNumbersFit same h

user_short : (b : Option ℕ) (a : Ask) → IfSome b Short → Some (UserQuery b) ≡ Some a → AskNumbersFit a
user_short b a h e = let same : UserQuery b ≡ a = cc in subst AskNumbersFit same h

floors_short : (floors : List ℕ) (a : Ask) → AreShort (λ n. n) floors → Some (FloorQuery floors) ≡ Some a → AskNumbersFit a
floors_short floors a h e = let same : FloorQuery floors ≡ a = cc in subst AskNumbersFit same (short_at (λ n. n) floors h)

action_short : (request : ℕ) (vs : List (ℕ × Verdict)) (reason : Option (List ℕ)) (a : Ask) → Short request → AreShort (λ v. v.0) vs → chair_action request vs reason ≡ Some a → AskNumbersFit a
action_short request [] reason a r h e = absurd (let no : ⊥ = cc in no)
action_short request (v ∷ vs) reason a r h e = let same : ChairAction request (v ∷ vs) reason ≡ a = cc in subst AskNumbersFit same (r, short_at (λ v. v.0) (v ∷ vs) h)

kept_asks : (request : ℕ) (vs : List (ℕ × Verdict)) (kept : Option (Option (List ℕ))) (a : Ask) → Short request → AreShort (λ v. v.0) vs
    → option_and_then (chair_action request vs) kept ≡ Some a → AskNumbersFit a
kept_asks request vs None a r h e = absurd (let no : ⊥ = cc in no)
kept_asks request vs (Some reason) a r h e = action_short request vs reason a r h e

judged_asks : (request : ℕ) (xs : List (ℕ × Option Verdict)) (kept : Option (Option (List ℕ))) (o : Option (List (ℕ × Verdict))) (a : Ask) → given xs ≡ o → Short request → AreShort (λ v. v.0) xs
    → option_and_then (λ vs. option_and_then (chair_action request vs) kept) o ≡ Some a → AskNumbersFit a
judged_asks request xs kept None a g r h e = absurd (let no : ⊥ = cc in no)
judged_asks request xs kept (Some vs) a g r h e = kept_asks request vs kept a r (given_short xs vs g h) e

chair_short : (o : Option (ℕ × List Attr)) (a : Ask) → IfSome o IsFine → option_and_then chair_asked o ≡ Some a → AskNumbersFit a
chair_short None a h e = absurd (let no : ⊥ = cc in no)
chair_short (Some g) a h e =
    judged_asks g.0 (floors_judged g.1) (reason_kept g.1) (given (floors_judged g.1)) a refl h.0
    (short_once (λ v. v.0) (map (judged (overall_status g.1)) (groups 17 g.1)) (judged_short (overall_status g.1) (groups 17 g.1) (groups_fine 17 g.1 h.1))) e

first_fine : (gs : List (ℕ × List Attr)) → AreFine gs → IfSome (first gs) IsFine
first_fine [] h = tt
first_fine (g ∷ gs) h = h.0

hello_short : (a : Ask) → Some Hello ≡ Some a → AskNumbersFit a
hello_short a e = let same : Hello ≡ a = cc in subst AskNumbersFit same tt

fields_short : (p : Primitive) (attrs : List Attr) (a : Ask) → is_ask p ≡ true → AreWritable attrs → fields p attrs ≡ Some a → AskNumbersFit a
fields_short primitive.FloorRequest attrs a t w e =
    request_short (distinct (numbers 2 attrs)) (first (numbers 1 attrs)) (priority_asked (first (pairs 4 attrs))) (text_kept 62 (first (octet_strings 8 attrs))) a
    (short_once (λ n. n) (numbers 2 attrs) (numbers_short 2 attrs w)) (short_first (λ n. n) (numbers 1 attrs) (numbers_short 1 attrs w)) e
fields_short primitive.FloorRelease attrs a t w e = release_short (first (numbers 3 attrs)) a (short_first (λ n. n) (numbers 3 attrs) (numbers_short 3 attrs w)) e
fields_short primitive.FloorRequestQuery attrs a t w e = query_short (first (numbers 3 attrs)) a (short_first (λ n. n) (numbers 3 attrs) (numbers_short 3 attrs w)) e
fields_short primitive.UserQuery attrs a t w e = user_short (first (numbers 1 attrs)) a (short_first (λ n. n) (numbers 1 attrs) (numbers_short 1 attrs w)) e
fields_short primitive.FloorQuery attrs a t w e = floors_short (distinct (numbers 2 attrs)) a (short_once (λ n. n) (numbers 2 attrs) (numbers_short 2 attrs w)) e
fields_short primitive.ChairAction attrs a t w e = chair_short (first (groups 15 attrs)) a (first_fine (groups 15 attrs) (groups_fine 15 attrs w)) e
fields_short primitive.Hello attrs a t w e = hello_short a e
fields_short primitive.FloorRequestStatus attrs a t w e = absurd (let no : ⊥ = cc in no)
fields_short primitive.UserStatus attrs a t w e = absurd (let no : ⊥ = cc in no)
fields_short primitive.FloorStatus attrs a t w e = absurd (let no : ⊥ = cc in no)
fields_short primitive.ChairActionAck attrs a t w e = absurd (let no : ⊥ = cc in no)
fields_short primitive.HelloAck attrs a t w e = absurd (let no : ⊥ = cc in no)
fields_short primitive.Error attrs a t w e = absurd (let no : ⊥ = cc in no)

bytes_behind : (bytes : List ℕ) (n : ℕ) → IsBytes bytes → IsBytes (drop n bytes)
bytes_behind bytes n h i = let P : ℕ → Type 0 = λ b. b < 256 in subst P (sym (get_or-drop n bytes i 0)) (h (n + i))

pub asked_numbers : ((a : Attributes) (s : List ℕ) → IsBytes s → spelled s ≡ Some a → Spells a s) → ((a : Attributes) (s : List ℕ) → IsBytes s → Spells a s → IsWritable a)
    → (bytes : List ℕ) (b : Binding) (a : Ask) → IsBytes bytes → ask bytes b ≡ asks a → AskNumbersFit a
asked_numbers computed writable bytes b a h e =
    let s = asked_stands bytes b a e in
    let behind = bytes_behind bytes 12 h in
    fields_short s.primitive (items s.found) a s.asks_so (items_writable s.found (writable s.found (drop 12 bytes) behind (computed s.found (drop 12 bytes) behind s.attrs_are))) s.fields_are
