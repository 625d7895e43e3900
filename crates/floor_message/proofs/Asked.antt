-- What a message asks can be written, where its counts fit.
use Rattle.std.proofs.Common.{◌≡◌, ℕ, ◌≤◌, true, ◌||◌, List, [], ◌∷◌, drop, Option, Some, None, refl, sym, ◌∙◌, ap, subst, arith}
use Rattle.std.specs.Prelude.{option_map, option_and_then, IfSome, ◌==◌}
use Rattle.std.specs.List.{list_any}
use Rattle.floor_wire.specs.Attributes.{Attributes}
use Rattle.floor_wire.specs.Header.{header_of}
use Rattle.floor_wire.specs.Spelled.{spelled}
use Rattle.floor_wire.specs.View.{items}
use Rattle.floor_wire.specs.declared.attribute.Attr.{Attr}
use Rattle.floor_message.specs.Ask.{ask, asks}
use Rattle.floor_message.specs.steps.Answering.{by_header, by_primitive, by_attributes, by_mandatory, header_refusal}
use Rattle.floor_message.proofs.Checked.{answer_by_steps}
use Rattle.floor_message.specs.Binding.{Binding}
use Rattle.floor_message.specs.Fields.{is_ask, fields, floor_request, priority_asked, given, chair_action, chair_asked, floors_judged, overall_reason, floor_reason, reason_for}
use Rattle.floor_message.specs.Fits.{AskPartsFit, AskTextFits, TextFits}
use Rattle.floor_message.specs.Laws.{CountsFit, FitsButForCounts}
use Rattle.floor_message.specs.Picked.{first, numbers, pairs, octet_strings, groups, distinct, IsOnceBy, mandatory}
use Rattle.floor_message.specs.Primitive.{primitive_of}
use Rattle.floor_message.specs.Text.{text_kept}
use Rattle.floor_message.specs.declared.code.ErrorCode.{ErrorCode}
use Rattle.floor_message.specs.declared.primitive.Primitive.{Primitive}
use Rattle.floor_message.specs.declared.primitive.Primitive.TheVariants as primitive
use Rattle.floor_message.specs.declared.verdicts.Verdict.{Verdict}
use Rattle.floor_message.specs.declared.ask.Ask.{Ask}
use Rattle.floor_message.specs.declared.ask.Ask.TheVariants.{FloorRequest, FloorRelease, FloorRequestQuery, UserQuery, FloorQuery, ChairAction, Hello}
use Rattle.floor_message.proofs.Cutting.{kept_fits}
use Rattle.floor_message.proofs.Once.{once_by-once}

-- an Ask fits, where its counts fit
abbrev Fitting : Ask → Type 0
Fitting a = CountsFit a → AskPartsFit a

priority_at_most : (p : Option (ℕ × ℕ)) → priority_asked p ≤ 4
priority_at_most None = omega arith
priority_at_most (Some p) = omega arith

floor_request_fitting : (floors : List ℕ) (b : Option ℕ) (priority : ℕ) (kept : Option (Option (List ℕ))) (a : Ask) → IsOnceBy (λ f. f) floors → priority ≤ 4
    → ((text : Option (List ℕ)) → kept ≡ Some text → IfSome text (TextFits 62)) → floor_request floors b priority kept ≡ Some a → Fitting a
floor_request_fitting [] b priority kept a once h text e = absurd (let no : ⊥ = cc in no)
floor_request_fitting (f ∷ floors) b priority None a once h text e = absurd (let no : ⊥ = cc in no)
floor_request_fitting (f ∷ floors) b priority (Some info) a once h text e =
    let same : FloorRequest b (f ∷ floors) priority info ≡ a = cc in
    subst Fitting same (λ few. record { some = omega arith; floors_fit = record { once = once; few = few }; priority_fits = h; text = text info refl })

-- a floor with its verdict, in front of the others
pub record Given (floor : ℕ) (verdict : Option Verdict) (others : Option (List (ℕ × Verdict))) (all : List (ℕ × Verdict)) : Type 0 where
  pub own : Verdict
  pub rest : List (ℕ × Verdict)
  pub rest_is : others ≡ Some rest
  pub all_is : (floor, own) ∷ rest ≡ all

pub given_front : (floor : ℕ) (verdict : Option Verdict) (others : Option (List (ℕ × Verdict))) (all : List (ℕ × Verdict))
    → option_and_then (λ w. option_map (λ ws. (floor, w) ∷ ws) others) verdict ≡ Some all → Given floor verdict others all
given_front floor None others all e = absurd (let no : ⊥ = cc in no)
given_front floor (Some w) None all e = absurd (let no : ⊥ = cc in no)
given_front floor (Some w) (Some ws) all e = record { own = w; rest = ws; rest_is = refl; all_is = cc }

given_any : (xs : List (ℕ × Option Verdict)) (vs : List (ℕ × Verdict)) (n : ℕ) → given xs ≡ Some vs → list_any (λ v. v.0 == n) vs ≡ list_any (λ v. v.0 == n) xs
given_any [] vs n e = let same : [] ≡ vs = cc in ap (λ l. list_any (λ v. v.0 == n) l) (sym same)
given_any (x ∷ xs) vs n e =
    let g = given_front x.0 x.1 (given xs) vs e in
    ap (λ l. list_any (λ v. v.0 == n) l) (sym g.all_is) ∙ ap (λ b. (x.0 == n) || b) (given_any xs g.rest n g.rest_is)

given_once : (xs : List (ℕ × Option Verdict)) (vs : List (ℕ × Verdict)) → given xs ≡ Some vs → IsOnceBy (λ v. v.0) xs → IsOnceBy (λ v. v.0) vs
given_once [] vs e once = let same : [] ≡ vs = cc in let P : List (ℕ × Verdict) → Type 0 = λ l. IsOnceBy (λ v. v.0) l in subst P same tt
given_once (x ∷ xs) vs e once =
    let g = given_front x.0 x.1 (given xs) vs e in
    let P : List (ℕ × Verdict) → Type 0 = λ l. IsOnceBy (λ v. v.0) l in
    subst P g.all_is (given_any xs g.rest x.0 g.rest_is ∙ once.0, given_once xs g.rest g.rest_is once.1)

chair_action_fitting : (request : ℕ) (vs : List (ℕ × Verdict)) (reason : Option (List ℕ)) (a : Ask) → IsOnceBy (λ v. v.0) vs → IfSome reason (TextFits 30)
    → chair_action request vs reason ≡ Some a → Fitting a
chair_action_fitting request [] reason a once h e = absurd (let no : ⊥ = cc in no)
chair_action_fitting request (v ∷ vs) reason a once h e =
    let same : ChairAction request (v ∷ vs) reason ≡ a = cc in
    subst Fitting same (λ few. record { verdicts_fit = record { some = omega arith; few = few; once = once }; text = h })

kept_fitting : (request : ℕ) (vs : List (ℕ × Verdict)) (text : Option (List ℕ)) (kept : Option (Option (List ℕ))) (a : Ask) → IsOnceBy (λ v. v.0) vs → text_kept 30 text ≡ kept
    → option_and_then (chair_action request vs) kept ≡ Some a → Fitting a
kept_fitting request vs text None a once k e = absurd (let no : ⊥ = cc in no)
kept_fitting request vs text (Some reason) a once k e = chair_action_fitting request vs reason a once (kept_fits 30 text reason k) e

judged_fitting : (request : ℕ) (xs : List (ℕ × Option Verdict)) (text : Option (List ℕ)) (o : Option (List (ℕ × Verdict))) (a : Ask) → given xs ≡ o → IsOnceBy (λ v. v.0) xs
    → option_and_then (λ vs. option_and_then (chair_action request vs) (text_kept 30 text)) o ≡ Some a → Fitting a
judged_fitting request xs text None a g once e = absurd (let no : ⊥ = cc in no)
judged_fitting request xs text (Some vs) a g once e = kept_fitting request vs text (text_kept 30 text) a (given_once xs vs g once) refl e

chair_fitting : (o : Option (ℕ × List Attr)) (a : Ask) → option_and_then chair_asked o ≡ Some a → Fitting a
chair_fitting None a e = absurd (let no : ⊥ = cc in no)
chair_fitting (Some g) a e =
    judged_fitting g.0 (floors_judged g.1) (reason_for (overall_reason g.1) (floor_reason g.1)) (given (floors_judged g.1)) a refl (once_by-once (λ v. v.0) _) e

release_fitting : (o : Option ℕ) (a : Ask) → option_map FloorRelease o ≡ Some a → Fitting a
release_fitting None a e = absurd (let no : ⊥ = cc in no)
release_fitting (Some r) a e = let same : FloorRelease r ≡ a = cc in subst Fitting same (λ few. tt)

query_fitting : (o : Option ℕ) (a : Ask) → option_map FloorRequestQuery o ≡ Some a → Fitting a
query_fitting None a e = absurd (let no : ⊥ = cc in no)
query_fitting (Some r) a e = let same : FloorRequestQuery r ≡ a = cc in subst Fitting same (λ few. tt)

user_fitting : (b : Option ℕ) (a : Ask) → Some (UserQuery b) ≡ Some a → Fitting a
user_fitting b a e = let same : UserQuery b ≡ a = cc in subst Fitting same (λ few. tt)

floors_fitting : (floors : List ℕ) (a : Ask) → IsOnceBy (λ f. f) floors → Some (FloorQuery floors) ≡ Some a → Fitting a
floors_fitting floors a once e = let same : FloorQuery floors ≡ a = cc in subst Fitting same (λ few. record { once = once; few = few })

hello_fitting : (a : Ask) → Some Hello ≡ Some a → Fitting a
hello_fitting a e = let same : Hello ≡ a = cc in subst Fitting same (λ few. tt)

fields_fitting : (p : Primitive) (attrs : List Attr) (a : Ask) → is_ask p ≡ true → fields p attrs ≡ Some a → Fitting a
fields_fitting primitive.FloorRequest attrs a t e =
    floor_request_fitting (distinct (numbers 2 attrs)) (first (numbers 1 attrs)) (priority_asked (first (pairs 4 attrs))) (text_kept 62 (first (octet_strings 8 attrs))) a
    (once_by-once (λ n. n) (numbers 2 attrs)) (priority_at_most (first (pairs 4 attrs))) (λ text k. kept_fits 62 (first (octet_strings 8 attrs)) text k) e
fields_fitting primitive.FloorRelease attrs a t e = release_fitting (first (numbers 3 attrs)) a e
fields_fitting primitive.FloorRequestQuery attrs a t e = query_fitting (first (numbers 3 attrs)) a e
fields_fitting primitive.UserQuery attrs a t e = user_fitting (first (numbers 1 attrs)) a e
fields_fitting primitive.FloorQuery attrs a t e = floors_fitting (distinct (numbers 2 attrs)) a (once_by-once (λ n. n) (numbers 2 attrs)) e
fields_fitting primitive.ChairAction attrs a t e = chair_fitting (first (groups 15 attrs)) a e
fields_fitting primitive.Hello attrs a t e = hello_fitting a e
fields_fitting primitive.FloorRequestStatus attrs a t e = absurd (let no : ⊥ = cc in no)
fields_fitting primitive.UserStatus attrs a t e = absurd (let no : ⊥ = cc in no)
fields_fitting primitive.FloorStatus attrs a t e = absurd (let no : ⊥ = cc in no)
fields_fitting primitive.ChairActionAck attrs a t e = absurd (let no : ⊥ = cc in no)
fields_fitting primitive.HelloAck attrs a t e = absurd (let no : ⊥ = cc in no)
fields_fitting primitive.Error attrs a t e = absurd (let no : ⊥ = cc in no)

-- what is asked stands in the attributes that the payload spells
pub record Stands (attrs : Option Attributes) (a : Ask) : Type 0 where
  pub primitive : Primitive
  pub found : Attributes
  pub attrs_are : attrs ≡ Some found
  pub asks_so : is_ask primitive ≡ true
  pub fields_are : fields primitive (items found) ≡ Some a

by_mandatory_stands : (types : List ℕ) (o : Option Ask) (a : Ask) → by_mandatory types o ≡ asks a → o ≡ Some a
by_mandatory_stands (t ∷ types) o a e = absurd (let no : ⊥ = cc in no)
by_mandatory_stands [] None a e = absurd (let no : ⊥ = cc in no)
by_mandatory_stands [] (Some b) a e = let same : Some b ≡ Some a = cc in same

by_attributes_stands : (p : Primitive) (attrs : Option Attributes) (a : Ask) → is_ask p ≡ true → by_attributes p attrs ≡ asks a → Stands attrs a
by_attributes_stands p None a k e = absurd (let no : ⊥ = cc in no)
by_attributes_stands p (Some attrs) a k e =
    record { primitive = p; found = attrs; attrs_are = refl; asks_so = k; fields_are = by_mandatory_stands (distinct (mandatory attrs)) (fields p (items attrs)) a e }

by_primitive_stands : (o : Option Primitive) (attrs : Option Attributes) (a : Ask) → by_primitive o attrs ≡ asks a → Stands attrs a
by_primitive_stands None attrs a e = absurd (let no : ⊥ = cc in no)
by_primitive_stands (Some primitive.FloorRequest) attrs a e = by_attributes_stands primitive.FloorRequest attrs a refl e
by_primitive_stands (Some primitive.FloorRelease) attrs a e = by_attributes_stands primitive.FloorRelease attrs a refl e
by_primitive_stands (Some primitive.FloorRequestQuery) attrs a e = by_attributes_stands primitive.FloorRequestQuery attrs a refl e
by_primitive_stands (Some primitive.UserQuery) attrs a e = by_attributes_stands primitive.UserQuery attrs a refl e
by_primitive_stands (Some primitive.FloorQuery) attrs a e = by_attributes_stands primitive.FloorQuery attrs a refl e
by_primitive_stands (Some primitive.ChairAction) attrs a e = by_attributes_stands primitive.ChairAction attrs a refl e
by_primitive_stands (Some primitive.Hello) attrs a e = by_attributes_stands primitive.Hello attrs a refl e
by_primitive_stands (Some primitive.FloorRequestStatus) attrs a e = absurd (let no : ⊥ = cc in no)
by_primitive_stands (Some primitive.UserStatus) attrs a e = absurd (let no : ⊥ = cc in no)
by_primitive_stands (Some primitive.FloorStatus) attrs a e = absurd (let no : ⊥ = cc in no)
by_primitive_stands (Some primitive.ChairActionAck) attrs a e = absurd (let no : ⊥ = cc in no)
by_primitive_stands (Some primitive.HelloAck) attrs a e = absurd (let no : ⊥ = cc in no)
by_primitive_stands (Some primitive.Error) attrs a e = absurd (let no : ⊥ = cc in no)

by_header_stands : (r : Option ErrorCode) (o : Option Primitive) (attrs : Option Attributes) (a : Ask) → by_header r o attrs ≡ asks a → Stands attrs a
by_header_stands (Some code) o attrs a e = absurd (let no : ⊥ = cc in no)
by_header_stands None o attrs a e = by_primitive_stands o attrs a e

pub asked_stands : (bytes : List ℕ) (b : Binding) (a : Ask) → ask bytes b ≡ asks a → Stands (spelled (drop 12 bytes)) a
unfolding ask
asked_stands bytes b a e = by_header_stands (header_refusal (header_of bytes) b) (primitive_of (header_of bytes).primitive) (spelled (drop 12 bytes)) a
    (sym (answer_by_steps (header_of bytes) b (spelled (drop 12 bytes))) ∙ e)

-- so can its text, whatever its counts
request_text : (floors : List ℕ) (b : Option ℕ) (priority : ℕ) (kept : Option (Option (List ℕ))) (a : Ask) → ((text : Option (List ℕ)) → kept ≡ Some text → IfSome text (TextFits 62))
    → floor_request floors b priority kept ≡ Some a → AskTextFits a
request_text [] b priority kept a text e = absurd (let no : ⊥ = cc in no)
request_text (f ∷ floors) b priority None a text e = absurd (let no : ⊥ = cc in no)
request_text (f ∷ floors) b priority (Some info) a text e = let same : FloorRequest b (f ∷ floors) priority info ≡ a = cc in subst AskTextFits same (text info refl)

kept_text : (request : ℕ) (vs : List (ℕ × Verdict)) (text : Option (List ℕ)) (kept : Option (Option (List ℕ))) (a : Ask) → text_kept 30 text ≡ kept
    → option_and_then (chair_action request vs) kept ≡ Some a → AskTextFits a
kept_text request vs text None a k e = absurd (let no : ⊥ = cc in no)
kept_text request [] text (Some reason) a k e = absurd (let no : ⊥ = cc in no)
kept_text request (v ∷ vs) text (Some reason) a k e = let same : ChairAction request (v ∷ vs) reason ≡ a = cc in subst AskTextFits same (kept_fits 30 text reason k)

given_text : (request : ℕ) (text : Option (List ℕ)) (o : Option (List (ℕ × Verdict))) (a : Ask)
    → option_and_then (λ vs. option_and_then (chair_action request vs) (text_kept 30 text)) o ≡ Some a → AskTextFits a
given_text request text None a e = absurd (let no : ⊥ = cc in no)
given_text request text (Some vs) a e = kept_text request vs text (text_kept 30 text) a refl e

chair_text : (o : Option (ℕ × List Attr)) (a : Ask) → option_and_then chair_asked o ≡ Some a → AskTextFits a
chair_text None a e = absurd (let no : ⊥ = cc in no)
chair_text (Some g) a e = given_text g.0 (reason_for (overall_reason g.1) (floor_reason g.1)) (given (floors_judged g.1)) a e

number_text : (f : ℕ → Ask) (o : Option ℕ) (a : Ask) → ((n : ℕ) → AskTextFits (f n)) → option_map f o ≡ Some a → AskTextFits a
number_text f None a h e = absurd (let no : ⊥ = cc in no)
number_text f (Some n) a h e = let same : f n ≡ a = cc in subst AskTextFits same (h n)

plain_text : (x a : Ask) → AskTextFits x → Some x ≡ Some a → AskTextFits a
plain_text x a h e = let same : x ≡ a = cc in subst AskTextFits same h

fields_text : (p : Primitive) (attrs : List Attr) (a : Ask) → is_ask p ≡ true → fields p attrs ≡ Some a → AskTextFits a
fields_text primitive.FloorRequest attrs a t e =
    request_text (distinct (numbers 2 attrs)) (first (numbers 1 attrs)) (priority_asked (first (pairs 4 attrs))) (text_kept 62 (first (octet_strings 8 attrs))) a
    (λ text k. kept_fits 62 (first (octet_strings 8 attrs)) text k) e
fields_text primitive.FloorRelease attrs a t e = number_text FloorRelease (first (numbers 3 attrs)) a (λ n. tt) e
fields_text primitive.FloorRequestQuery attrs a t e = number_text FloorRequestQuery (first (numbers 3 attrs)) a (λ n. tt) e
fields_text primitive.UserQuery attrs a t e = plain_text (UserQuery (first (numbers 1 attrs))) a tt e
fields_text primitive.FloorQuery attrs a t e = plain_text (FloorQuery (distinct (numbers 2 attrs))) a tt e
fields_text primitive.ChairAction attrs a t e = chair_text (first (groups 15 attrs)) a e
fields_text primitive.Hello attrs a t e = plain_text Hello a tt e
fields_text primitive.FloorRequestStatus attrs a t e = absurd (let no : ⊥ = cc in no)
fields_text primitive.UserStatus attrs a t e = absurd (let no : ⊥ = cc in no)
fields_text primitive.FloorStatus attrs a t e = absurd (let no : ⊥ = cc in no)
fields_text primitive.ChairActionAck attrs a t e = absurd (let no : ⊥ = cc in no)
fields_text primitive.HelloAck attrs a t e = absurd (let no : ⊥ = cc in no)
fields_text primitive.Error attrs a t e = absurd (let no : ⊥ = cc in no)

pub asked_fits : (bytes : List ℕ) (b : Binding) (a : Ask) → ask bytes b ≡ asks a → FitsButForCounts a
asked_fits bytes b a e =
    let s = asked_stands bytes b a e in
    record { text = fields_text s.primitive (items s.found) a s.asks_so s.fields_are; parts = fields_fitting s.primitive (items s.found) a s.asks_so s.fields_are }
