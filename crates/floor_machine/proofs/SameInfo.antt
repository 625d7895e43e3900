-- Two floor requests are shown alike exactly where all that is shown of them is equal.
use Rattle.std.proofs.Common.{◌≡◌, ℕ, Bool, true, false, List, [], ◌∷◌, Option, Some, None, true≢false, refl, sym, ap, subst, ◌∙◌, arith}
use Rattle.std.specs.Prelude.{◌==◌, ◌&&◌, ◌↔◌, IsTrue}
use Rattle.std.proofs.lemmas.Bool.Decides.{nat_tests}
use Rattle.floor_message.specs.declared.information.Who.{Who}
use Rattle.floor_message.specs.declared.information.Info.{Info}
use Rattle.floor_machine.specs.Same.{same_list, same_option, same_number, same_octets, same_status, same_floor, same_who, same_info, same_infos}
use Rattle.floor_machine.proofs.Found.{and_left, and_right}
use Rattle.floor_machine.specs.Laws.{InfosSameIsEqual, SameIsEqual}

-- a test that is true exactly of equal values
record Tells {A : Type 0} (same : A → A → Bool) : Type 0 where
  equal : (x y : A) → same x y ≡ true → x ≡ y
  own : (x : A) → same x x ≡ true

and_both : (a b : Bool) → a ≡ true → b ≡ true → (a && b) ≡ true
and_both true b h k = k
and_both false b h k = h

number_equal : (x y : ℕ) → (x == y) ≡ true → x ≡ y
number_equal x y h = grind (arith, nat_tests)

number_own : (x : ℕ) → (x == x) ≡ true
number_own x = grind (arith, nat_tests)

numbers : Tells same_number
numbers = record { equal = number_equal; own = number_own }

list_equal : {A : Type 0} (same : A → A → Bool) → ((x y : A) → same x y ≡ true → x ≡ y) → (xs ys : List A) → same_list same xs ys ≡ true → xs ≡ ys
list_equal same e [] [] h = refl
list_equal same e [] (y ∷ ys) h = cc
list_equal same e (x ∷ xs) [] h = cc
list_equal {A = A} same e (x ∷ xs) (y ∷ ys) h =
    ap (λ (z : A). z ∷ xs) (e x y (and_left (same x y) (same_list same xs ys) h))
    ∙ ap (λ (zs : List A). y ∷ zs) (list_equal same e xs ys (and_right (same x y) (same_list same xs ys) h))

pub list_own : {A : Type 0} (same : A → A → Bool) → ((x : A) → same x x ≡ true) → (xs : List A) → same_list same xs xs ≡ true
list_own same o [] = refl
list_own same o (x ∷ xs) = and_both (same x x) (same_list same xs xs) (o x) (list_own same o xs)

lists : {A : Type 0} (same : A → A → Bool) → Tells same → Tells (same_list same)
lists same t = record { equal = list_equal same t.equal; own = list_own same t.own }

option_equal : {A : Type 0} (same : A → A → Bool) → ((x y : A) → same x y ≡ true → x ≡ y) → (x y : Option A) → same_option same x y ≡ true → x ≡ y
option_equal same e None None h = refl
option_equal same e None (Some y) h = cc
option_equal same e (Some x) None h = cc
option_equal {A = A} same e (Some x) (Some y) h = ap (λ (z : A). Some z) (e x y h)

option_own : {A : Type 0} (same : A → A → Bool) → ((x : A) → same x x ≡ true) → (x : Option A) → same_option same x x ≡ true
option_own same o None = refl
option_own same o (Some x) = o x

options : {A : Type 0} (same : A → A → Bool) → Tells same → Tells (same_option same)
options same t = record { equal = option_equal same t.equal; own = option_own same t.own }

statuses : Tells same_status
statuses = record {
  equal = λ x y h.
      let made : ℕ → ℕ → ℕ × ℕ = λ a b. (a, b) in
      ap (λ (a : ℕ). made a x.1) (number_equal x.0 y.0 (and_left (x.0 == y.0) (x.1 == y.1) h)) ∙ ap (made y.0) (number_equal x.1 y.1 (and_right (x.0 == y.0) (x.1 == y.1) h));
  own = λ x. and_both (x.0 == x.0) (x.1 == x.1) (number_own x.0) (number_own x.1);
}

floors : Tells same_floor
floors = record {
  equal = λ x y h.
      let made : ℕ → Option (ℕ × ℕ) → ℕ × Option (ℕ × ℕ) = λ a b. (a, b) in
      ap (λ (a : ℕ). made a x.1) (number_equal x.0 y.0 (and_left (x.0 == y.0) (same_option same_status x.1 y.1) h))
      ∙ ap (made y.0) ((options same_status statuses).equal x.1 y.1 (and_right (x.0 == y.0) (same_option same_status x.1 y.1) h));
  own = λ x. and_both (x.0 == x.0) (same_option same_status x.1 x.1) (number_own x.0) ((options same_status statuses).own x.1);
}

octets : Tells same_octets
octets = lists same_number numbers

texts : Tells (same_option same_octets)
texts = options same_octets octets

users : Tells same_who
users = record {
  equal = λ x y h.
      let made : ℕ → Option (List ℕ) → Option (List ℕ) → Who = λ a b c. record { user = a; name = b; uri = c } in
      let ab = and_left (x.user == y.user && same_option same_octets x.name y.name) (same_option same_octets x.uri y.uri) h in
      ap (λ (a : ℕ). made a x.name x.uri) (number_equal x.user y.user (and_left (x.user == y.user) (same_option same_octets x.name y.name) ab))
      ∙ ap (λ (b : Option (List ℕ)). made y.user b x.uri) (texts.equal x.name y.name (and_right (x.user == y.user) (same_option same_octets x.name y.name) ab))
      ∙ ap (made y.user y.name) (texts.equal x.uri y.uri (and_right (x.user == y.user && same_option same_octets x.name y.name) (same_option same_octets x.uri y.uri) h));
  own = λ x. and_both (x.user == x.user && same_option same_octets x.name x.name) (same_option same_octets x.uri x.uri)
      (and_both (x.user == x.user) (same_option same_octets x.name x.name) (number_own x.user) (texts.own x.name)) (texts.own x.uri);
}

-- eight tests one after another
record AllEight (a b c d e f g h : Bool) : Type 0 where
  first : a ≡ true
  second : b ≡ true
  third : c ≡ true
  fourth : d ≡ true
  fifth : e ≡ true
  sixth : f ≡ true
  seventh : g ≡ true
  eighth : h ≡ true

apart : (a b c d e f g h : Bool) → (a && b && c && d && e && f && g && h) ≡ true → AllEight a b c d e f g h
apart true true true true true true true true k = record { first = refl; second = refl; third = refl; fourth = refl; fifth = refl; sixth = refl; seventh = refl; eighth = refl }
apart true true true true true true true false k = cc
apart true true true true true true false h k = cc
apart true true true true true false g h k = cc
apart true true true true false f g h k = cc
apart true true true false e f g h k = cc
apart true true false d e f g h k = cc
apart true false c d e f g h k = cc
apart false b c d e f g h k = cc

together : (a b c d e f g h : Bool) → a ≡ true → b ≡ true → c ≡ true → d ≡ true → e ≡ true → f ≡ true → g ≡ true → h ≡ true → (a && b && c && d && e && f && g && h) ≡ true
together a b c d e f g h p q r s t u v w = rw (p, q, r, s, t, u, v, w) refl

pub info_equal : (x y : Info) → same_info x y ≡ true → x ≡ y
unfolding same_info
info_equal x y h =
    let all = apart (x.request == y.request) (same_option same_status x.overall y.overall) (same_option same_octets x.reason y.reason) (same_list same_floor x.floors y.floors)
    (same_option same_who x.beneficiary y.beneficiary) (same_option same_who x.requester y.requester) (same_option same_number x.priority y.priority) (same_option same_octets x.info y.info) h in
    ap (λ (v : ℕ). record x { request = v }) (number_equal x.request y.request all.first)
    ∙ ap (λ (v : Option (ℕ × ℕ)). record x { request = y.request; overall = v }) ((options same_status statuses).equal x.overall y.overall all.second)
    ∙ ap (λ (v : Option (List ℕ)). record x { request = y.request; overall = y.overall; reason = v }) (texts.equal x.reason y.reason all.third)
    ∙ ap (λ (v : List (ℕ × Option (ℕ × ℕ))). record x { request = y.request; overall = y.overall; reason = y.reason; floors = v }) ((lists same_floor floors).equal x.floors y.floors all.fourth)
    ∙ ap (λ (v : Option Who). record y { beneficiary = v; requester = x.requester; priority = x.priority; info = x.info }) ((options same_who users).equal x.beneficiary y.beneficiary all.fifth)
    ∙ ap (λ (v : Option Who). record y { requester = v; priority = x.priority; info = x.info }) ((options same_who users).equal x.requester y.requester all.sixth)
    ∙ ap (λ (v : Option ℕ). record y { priority = v; info = x.info }) ((options same_number numbers).equal x.priority y.priority all.seventh)
    ∙ ap (λ (v : Option (List ℕ)). record y { info = v }) (texts.equal x.info y.info all.eighth)

pub info_own : (x : Info) → same_info x x ≡ true
unfolding same_info
info_own x =
    together (x.request == x.request) (same_option same_status x.overall x.overall) (same_option same_octets x.reason x.reason) (same_list same_floor x.floors x.floors)
    (same_option same_who x.beneficiary x.beneficiary) (same_option same_who x.requester x.requester) (same_option same_number x.priority x.priority) (same_option same_octets x.info x.info)
    (number_own x.request) ((options same_status statuses).own x.overall) (texts.own x.reason) ((lists same_floor floors).own x.floors) ((options same_who users).own x.beneficiary)
    ((options same_who users).own x.requester) ((options same_number numbers).own x.priority) (texts.own x.info)

-- who answers exactly whether both are equal answers whether they are shown alike
pub same_as : (answer : Bool) (x y : Info) → IsTrue answer ↔ (x ≡ y) → answer ≡ same_info x y
same_as true x y h = sym (let P : Info → Type 0 = λ z. same_info x z ≡ true in subst P (h.0 refl) (info_own x))
same_as false x y h = by (same_info x y) refl
  where
    by : (b : Bool) → same_info x y ≡ b → false ≡ same_info x y
    by true e = absurd (true≢false (sym (h.1 (info_equal x y e))))
    by false e = sym e

pub same_is_equal : SameIsEqual
same_is_equal = λ x y. (info_equal x y, λ e. let P : Info → Type 0 = λ z. same_info x z ≡ true in subst P e (info_own x))

pub infos_same_is_equal : InfosSameIsEqual
infos_same_is_equal = λ xs ys. (
  list_equal same_info info_equal xs ys,
  λ e. let P : List Info → Type 0 = λ zs. same_infos xs zs ≡ true in subst P e (list_own same_info info_own xs),
)
