-- Values as JSON, and what is written of them.
use Rattle.std.specs.Prelude.{◌≡◌, ℕ, List, [], ◌∷◌, ◌++◌, map, Option, Some, None, option_map, OnOk, Result}
use Rattle.std.specs.Fmt.{decimal, signed_decimal}
use Rattle.std.specs.Prelude.{ℤ}
use Rattle.json.specs.Json as json
use Rattle.json.specs.Json.{Json, Members}
use Rattle.json.specs.Print.{print}
use Rattle.json.specs.Token as token
use Rattle.json.specs.Token.{Token}
use Rattle.json.specs.Tree.{json_tokens}
use Rattle.json.specs.Value.{items_of}
use Rattle.json.specs.Written.{Written}

-- a number, in decimal digits
abbrev pub number_json : ℕ → Json
number_json n = json.number (decimal n)

-- a number that may be below 0
abbrev pub integer_json : ℤ → Json
integer_json n = json.number (signed_decimal n)

-- `null` for what isn't there
abbrev pub option_json : {A : Type 0} → (A → Json) → Option A → Json
option_json f (Some a) = f a
option_json f None = json.null

-- an array
abbrev pub list_json : {A : Type 0} → (A → Json) → List A → Json
list_json f items = json.array (items_of (map f items))

-- ---- objects of which a member may be left out

-- a key, and its value, where it is there
abbrev pub Fields : Type 0
Fields = List (List ℕ × Option Json)

abbrev pub given : List ℕ → Json → List ℕ × Option Json
given key j = (key, Some j)

abbrev pub given_where : {A : Type 0} → List ℕ → (A → Json) → Option A → List ℕ × Option Json
given_where key f o = (key, option_map f o)

abbrev pub member_where : List ℕ → Option Json → Members → Members
member_where key (Some j) ms = json.member key j ms
member_where key None ms = ms

-- the members whose values are there, in order
unfoldable pub members_of : Fields → Members
members_of [] = json.no_members
members_of (f ∷ fs) = member_where f.0 f.1 (members_of fs)

abbrev pub object_of : Fields → Json
object_of fs = json.object (members_of fs)

-- an object of one member, and of two
abbrev pub one_member : List ℕ → Json → Json
one_member key j = object_of (given key j ∷ [])

abbrev pub two_members : List ℕ → Json → List ℕ → Json → Json
two_members key j other k = object_of (given key j ∷ given other k ∷ [])

-- the line of a value: its one spelling, and a line feed
abbrev pub line_of : Json → List ℕ
line_of j = print (json_tokens j) ++ 10 ∷ []

-- ---- what a writer does

-- behind a writer's tokens stand these; what stood before the first of them stays, also where it failed
pub record Adds {E : Type 0} (r : Result (Unit {0}) E) (old new : Written) (ts : List Token) : Type 0 where
  pub took : OnOk r (new.tokens ≡ old.tokens ++ ts)
  pub before : new.before ≡ old.before

-- the tokens of a member that may be left out
abbrev pub value_tokens : List ℕ → Option Json → List Token
value_tokens key (Some j) = token.key key ∷ json_tokens j
value_tokens key None = []

-- the tokens of such members, and of the end of their object
abbrev pub fields_tokens : Fields → List Token
fields_tokens [] = token.end_object ∷ []
fields_tokens (f ∷ fs) = value_tokens f.0 f.1 ++ fields_tokens fs
