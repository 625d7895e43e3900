-- What is picked from attributes that are looked at one after another.
use Rattle.std.proofs.Common.{◌≡◌, ℕ, zero, suc, ◌<◌, Bool, true, false, not, cond, ◌&&◌, List, [], ◌∷◌, ◌++◌, length, get_or, map, filter, Option, Some, None, refl, sym, ◌∙◌, ap, arith, eq-eqb}
use Rattle.std.specs.Prelude.{All, IfSome, MatchOption, option_map, ◌==◌}
use Rattle.floor_wire.specs.Attributes.{Content, num, pair, group, octets, Attributes, no_attributes, attribute}
use Rattle.floor_wire.specs.Spelling.{IsWritable, IsWritableContent, is_known}
use Rattle.floor_wire.specs.View.{attributes_of, content_of, items}
use Rattle.floor_wire.specs.declared.attribute.Attr.{Attr}
use Rattle.floor_wire.specs.declared.attribute.Body.{Body}
use Rattle.floor_message.specs.Picked.{if_kind, numbers, groups, once_by, distinct, mandatory, mandatory_inside, own_mandatory}
use Rattle.floor_message.specs.steps.Adding.{add_all}
use Rattle.floor_message.specs.Fields.{judged, floors_judged, overall_status}
use Rattle.floor_wire.specs.AttrsCode.{items-attributes_of}
use Rattle.floor_message.proofs.Once.{once_by_added, add_all_append}

-- what is found once all attributes were looked at
pub numbers_done : (kind : ℕ) (attrs rest : List Attr) (found : List ℕ) → rest ≡ []
    → add_all (λ n. n) found (numbers kind rest) ≡ add_all (λ n. n) [] (numbers kind attrs) → found ≡ distinct (numbers kind attrs)
numbers_done kind attrs rest found h e =
    sym (ap (λ xs. add_all (λ n. n) found (numbers kind xs)) h) ∙ e ∙ once_by_added (λ n. n) (numbers kind attrs)

-- the attribute at the front is looked at, and those inside it
pub mandatory_step : (xs rest : List Attr) (a : Attr) (found found2 : List ℕ) → xs ≡ a ∷ rest
    → found2 ≡ add_all (λ n. n) (add_all (λ n. n) found (own_mandatory a.kind a.must)) (mandatory_inside (content_of a.body))
    → add_all (λ n. n) found2 (mandatory (attributes_of rest)) ≡ add_all (λ n. n) found (mandatory (attributes_of xs))
mandatory_step xs rest a found found2 e f =
    let others = mandatory (attributes_of rest) in
    let own = own_mandatory a.kind a.must in
    let inside = mandatory_inside (content_of a.body) in
    ap (λ l. add_all (λ n. n) l others) f
    ∙ ap (λ l. add_all (λ n. n) l others) (sym (add_all_append (λ n. n) found own inside))
    ∙ sym (add_all_append (λ n. n) found (own ++ inside) others)
    ∙ sym (ap (λ ys. add_all (λ n. n) found (mandatory (attributes_of ys))) e)

-- P of each number, by cases
abbrev Each : (ℕ → Type 0) → List ℕ → Type 0
Each P [] = Unit {0}
Each P (x ∷ xs) = P x × Each P xs

All_of : (P : ℕ → Type 0) (xs : List ℕ) → Each P xs → (k d : ℕ) → k < length xs → P (get_or xs k d)
All_of P [] p k d h = absurd (omega arith)
All_of P (x ∷ xs) p zero d h = p.0
All_of P (x ∷ xs) p (suc k) d h = All_of P xs p.1 k d (omega arith)

Each_append : (P : ℕ → Type 0) (xs ys : List ℕ) → Each P xs → Each P ys → Each P (xs ++ ys)
Each_append P [] ys p q = q
Each_append P (x ∷ xs) ys p q = (p.0, Each_append P xs ys p.1 q)

Each_filter : (P : ℕ → Type 0) (test : ℕ → Bool) (xs : List ℕ) → Each P xs → Each P (filter test xs)
Each_filter P test [] p = p
Each_filter P test (x ∷ xs) p = elim (test x) as (λ b. Each P (cond b (x ∷ filter test xs) (filter test xs))) [
  | true ↦ (p.0, Each_filter P test xs p.1)
  | false ↦ Each_filter P test xs p.1
]

Each_distinct : (P : ℕ → Type 0) (xs : List ℕ) → Each P xs → Each P (distinct xs)
Each_distinct P [] p = p
Each_distinct P (x ∷ xs) p = (p.0, Each_filter P (λ y. not (y == x)) (distinct xs) (Each_distinct P xs p.1))

own_fits : (kind : ℕ) (must : Bool) → kind < 128 → Each (λ t. t < 128) (own_mandatory kind must)
own_fits kind must h = elim (must && not (is_known kind)) as (λ b. Each (λ t. t < 128) (cond b (kind ∷ []) [])) [ true ↦ (h, tt) | false ↦ tt ]

mutual
  inside_fits : (c : Content) → IsWritableContent c → Each (λ t. t < 128) (mandatory_inside c)
  inside_fits (num n) w = tt
  inside_fits (pair a b) w = tt
  inside_fits (group n i) w = mandatory_fits i w.1
  inside_fits (octets os) w = tt

  -- the types of attributes that can be written are below 128
  mandatory_fits : (a : Attributes) → IsWritable a → Each (λ t. t < 128) (mandatory a)
  mandatory_fits no_attributes w = tt
  mandatory_fits (attribute k m c rest) w =
      Each_append (λ t. t < 128) (own_mandatory k m ++ mandatory_inside c) (mandatory rest)
      (Each_append (λ t. t < 128) (own_mandatory k m) (mandatory_inside c) (own_fits k m w.0) (inside_fits c w.3))
      (mandatory_fits rest w.4)

pub types_fit : (a : Attributes) → IsWritable a → All (λ t. t < 128) (distinct (mandatory a))
types_fit a w = All_of (λ t. t < 128) (distinct (mandatory a)) (Each_distinct (λ t. t < 128) (mandatory a) (mandatory_fits a w))

own_unknown_by : (kind : ℕ) (must b : Bool) → is_known kind ≡ b → Each (λ t. is_known t ≡ false) (cond (must && not b) (kind ∷ []) [])
own_unknown_by kind true true e = tt
own_unknown_by kind true false e = (e, tt)
own_unknown_by kind false b e = tt

own_unknown : (kind : ℕ) (must : Bool) → Each (λ t. is_known t ≡ false) (own_mandatory kind must)
own_unknown kind must = own_unknown_by kind must (is_known kind) refl

mutual
  inside_unknown : (c : Content) → Each (λ t. is_known t ≡ false) (mandatory_inside c)
  inside_unknown (num n) = tt
  inside_unknown (pair a b) = tt
  inside_unknown (group n i) = mandatory_unknown i
  inside_unknown (octets os) = tt

  mandatory_unknown : (a : Attributes) → Each (λ t. is_known t ≡ false) (mandatory a)
  mandatory_unknown no_attributes = tt
  mandatory_unknown (attribute k m c rest) =
      Each_append (λ t. is_known t ≡ false) (own_mandatory k m ++ mandatory_inside c) (mandatory rest)
      (Each_append (λ t. is_known t ≡ false) (own_mandatory k m) (mandatory_inside c) (own_unknown k m) (inside_unknown c))
      (mandatory_unknown rest)

-- the types that an Error names are unknown
pub types_unknown : (a : Attributes) → All (λ t. is_known t ≡ false) (distinct (mandatory a))
types_unknown a =
    All_of (λ t. is_known t ≡ false) (distinct (mandatory a)) (Each_distinct (λ t. is_known t ≡ false) (mandatory a) (mandatory_unknown a))

pub judged_done : (attrs rest : List Attr) (overall : _) (found : _) → rest ≡ [] → overall ≡ overall_status attrs
    → add_all (λ v. v.0) found (map (judged overall) (groups 17 rest)) ≡ add_all (λ v. v.0) [] (map (judged overall) (groups 17 attrs))
    → found ≡ floors_judged attrs
judged_done attrs rest overall found h o e =
    sym (ap (λ xs. add_all (λ v. v.0) found (map (judged overall) (groups 17 xs))) h) ∙ e
    ∙ once_by_added (λ v. v.0) (map (judged overall) (groups 17 attrs))
    ∙ ap (λ v. once_by (λ w. w.0) (map (judged v) (groups 17 attrs))) o

-- what is picked from an attribute of the type
pub kind_holds : {A : Type 0} (pick : Body → Option A) (kind : ℕ) (a : Attr) → a.kind ≡ kind → if_kind pick kind a ≡ pick a.body
kind_holds pick kind a e = let same : (a.kind == kind) ≡ true = eq-eqb a.kind kind e in rw same refl

-- the attributes that are found, as a list
pub found_of : (o : Option (List Attr)) (s : Option Attributes) → option_map attributes_of o ≡ s
    → MatchOption o (s ≡ None) (λ attrs. (s ≡ Some (attributes_of attrs)) × (items (attributes_of attrs) ≡ attrs))
found_of None s e = sym e
found_of (Some attrs) s e = (sym e, items-attributes_of attrs)

pub kinds_of : (o : Option (List Attr)) → IfSome o (λ attrs. IsWritable (attributes_of attrs))
    → IfSome o (λ attrs. All (λ t. t < 128) (distinct (mandatory (attributes_of attrs))))
kinds_of None w = tt
kinds_of (Some attrs) w = types_fit (attributes_of attrs) w
