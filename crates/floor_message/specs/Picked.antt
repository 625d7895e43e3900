-- What is read from a list of attributes: the first of a type, all of a type, or each once (RFC 8855, section 5.2).
use Rattle.std.specs.Prelude.{◌≡◌, ℕ, Bool, false, not, ◌&&◌, ◌==◌, List, [], ◌∷◌, ◌++◌, filter, filter_map, Option, Some, None, if◌then◌else◌}
use Rattle.std.specs.List.{list_any}
use Rattle.floor_wire.specs.Attributes.{Content, num, pair, group, octets, Attributes, no_attributes, attribute}
use Rattle.floor_wire.specs.declared.attribute.Attr.{Attr}
use Rattle.floor_wire.specs.declared.attribute.Body.{Body}
use Rattle.floor_wire.specs.declared.attribute.Body.TheVariants.{Num, Pair, Group, Octets}
use Rattle.floor_wire.specs.Spelling.{is_known}
use Rattle.floor_wire.specs.View.{items}

-- the first of a list
abbrev pub first : {A : Type 0} → List A → Option A
first [] = None
first (x ∷ xs) = Some x

-- the number in a body
abbrev pub number_in : Body → Option ℕ
number_in (Num n) = Some n
number_in (Pair a b) = None
number_in (Group n inside) = None
number_in (Octets os) = None

-- the two bytes in a body
abbrev pub pair_in : Body → Option (ℕ × ℕ)
pair_in (Num n) = None
pair_in (Pair a b) = Some (a, b)
pair_in (Group n inside) = None
pair_in (Octets os) = None

-- the octets in a body
abbrev pub octets_in : Body → Option (List ℕ)
octets_in (Num n) = None
octets_in (Pair a b) = None
octets_in (Group n inside) = None
octets_in (Octets os) = Some os

-- the number of a group, with the attributes directly inside it
abbrev pub group_in : Body → Option (ℕ × List Attr)
group_in (Num n) = None
group_in (Pair a b) = None
group_in (Group n inside) = Some (n, items inside)
group_in (Octets os) = None

-- what is picked from the body of an attribute, where it has the type
abbrev pub if_kind : {A : Type 0} → (Body → Option A) → ℕ → Attr → Option A
if_kind pick kind a = if a.kind == kind then pick a.body else None

-- the numbers in all attributes of a type
abbrev pub numbers : ℕ → List Attr → List ℕ
numbers kind attrs = filter_map (if_kind number_in kind) attrs

-- the two bytes in each attribute of a type
abbrev pub pairs : ℕ → List Attr → List (ℕ × ℕ)
pairs kind attrs = filter_map (if_kind pair_in kind) attrs

-- the octets in each attribute of a type
abbrev pub octet_strings : ℕ → List Attr → List (List ℕ)
octet_strings kind attrs = filter_map (if_kind octets_in kind) attrs

-- the groups of a type
abbrev pub groups : ℕ → List Attr → List (ℕ × List Attr)
groups kind attrs = filter_map (if_kind group_in kind) attrs

-- each once, in order of first appearance, told apart by a number of theirs
abbrev pub once_by : {A : Type 0} → (A → ℕ) → List A → List A
once_by key [] = []
once_by key (x ∷ xs) = x ∷ filter (λ y. not (key y == key x)) (once_by key xs)

-- Of no items none is kept. An item behind others is kept behind what is kept of them, unless one of them has its number.
pub record KeepsFirst (A : Type 0) (key : A → ℕ) : Type 0 where
  pub none : once_by key [] ≡ []
  pub more : (before : List A) (x : A)
      → once_by key (before ++ x ∷ []) ≡ once_by key before ++ (if list_any (λ y. key x == key y) before then [] else x ∷ [])

-- no two of them have the same number
abbrev pub IsOnceBy : {A : Type 0} → (A → ℕ) → List A → Type 0
IsOnceBy key [] = Unit {0}
IsOnceBy key (x ∷ xs) = (list_any (λ y. key y == key x) xs ≡ false) × IsOnceBy key xs

-- numbers, each once, in order of first appearance
abbrev pub distinct : List ℕ → List ℕ
distinct numbers = once_by (λ n. n) numbers

-- an attribute's own type, where it is unknown and M is set
abbrev pub own_mandatory : ℕ → Bool → List ℕ
own_mandatory kind must = if must && not (is_known kind) then kind ∷ [] else []

-- the types of the unknown attributes with M set, in the order of their first bytes, those inside groups too
abbrev mutual
  pub mandatory_inside : Content → List ℕ
  mandatory_inside (num n) = []
  mandatory_inside (pair a b) = []
  mandatory_inside (group n inside) = mandatory inside
  mandatory_inside (octets os) = []

  pub mandatory : Attributes → List ℕ
  mandatory no_attributes = []
  mandatory (attribute kind must content rest) = own_mandatory kind must ++ mandatory_inside content ++ mandatory rest
