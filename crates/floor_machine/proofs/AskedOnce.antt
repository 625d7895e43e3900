-- A FloorQuery names each floor once.
use Rattle.std.proofs.Common.{◌≡◌, ℕ, Bool, true, false, List, [], ◌∷◌, drop, Option, Some, None, subst}
use Rattle.std.specs.Prelude.{option_map, option_and_then, ◌*◌, ◌==◌, not, map, is_some}
use Rattle.std.specs.List.{list_any}
use Rattle.floor_wire.specs.Attributes.{Attributes}
use Rattle.floor_wire.specs.Header.{CommonHeader, header_of}
use Rattle.floor_wire.specs.Spelled.{spelled}
use Rattle.floor_wire.specs.Types.{FLOOR_ID, BENEFICIARY_ID, FLOOR_REQUEST_ID, PRIORITY, PARTICIPANT_PROVIDED_INFO, FLOOR_REQUEST_INFORMATION}
use Rattle.floor_wire.specs.View.{items}
use Rattle.floor_wire.specs.declared.attribute.Attr.{Attr}
use Rattle.floor_message.specs.Ask.{Answer, Check, ask, asks, asks_if_any, checks, first_of, has_any, is_error, is_served, refused, unanswered, unknown_types, wanted, when}
use Rattle.floor_message.specs.Binding.{Binding}
use Rattle.floor_message.specs.Fields.{chair_action, chair_asked, fields, floor_request, floors_judged, given, priority_asked, reason_kept}
use Rattle.floor_message.specs.Picked.{IsOnceBy, distinct, first, groups, numbers, octet_strings, pairs}
use Rattle.floor_message.specs.Primitive.{primitive_of}
use Rattle.floor_message.specs.Text.{text_kept}
use Rattle.floor_message.specs.declared.ask.Ask.{Ask}
use Rattle.floor_message.specs.declared.ask.Ask.TheVariants.{FloorRequest, FloorRelease, FloorRequestQuery, UserQuery, FloorQuery, ChairAction, Hello}
use Rattle.floor_message.specs.declared.verdicts.Verdict.{Verdict}
use Rattle.floor_message.specs.declared.code.ErrorCode.{ErrorCode}
use Rattle.floor_message.specs.declared.code.ErrorCode.TheVariants as code
use Rattle.floor_message.specs.declared.primitive.Primitive.{Primitive}
use Rattle.floor_message.specs.declared.primitive.Primitive.TheVariants as primitive
use Rattle.floor_message.proofs.Once.{once_by-once}

-- the floors of a FloorQuery differ
abbrev AreOnce : Ask → Type 0
AreOnce (FloorRequest beneficiary floors priority info) = Unit {0}
AreOnce (FloorRelease request) = Unit {0}
AreOnce (FloorRequestQuery request) = Unit {0}
AreOnce (UserQuery beneficiary) = Unit {0}
AreOnce (FloorQuery floors) = IsOnceBy (λ n. n) floors
AreOnce (ChairAction request verdicts reason) = Unit {0}
AreOnce Hello = Unit {0}

once : (x a : Ask) → Some x ≡ Some a → AreOnce x → AreOnce a
once x a e h = let same : x ≡ a = cc in subst AreOnce same h

once_request : (floors : List ℕ) (b : Option ℕ) (priority : ℕ) (kept : Option (Option (List ℕ))) (a : Ask) → floor_request floors b priority kept ≡ Some a → AreOnce a
once_request [] b priority kept a e = cc
once_request (f ∷ floors) b priority None a e = cc
once_request (f ∷ floors) b priority (Some info) a e = once (FloorRequest b (f ∷ floors) priority info) a e tt

once_of : (f : ℕ → Ask) (o : Option ℕ) (a : Ask) → ((n : ℕ) → AreOnce (f n)) → option_map f o ≡ Some a → AreOnce a
once_of f None a h e = cc
once_of f (Some n) a h e = once (f n) a e (h n)

once_kept : (request : ℕ) (verdicts : List (ℕ × Verdict)) (kept : Option (Option (List ℕ))) (a : Ask) → option_and_then (chair_action request verdicts) kept ≡ Some a → AreOnce a
once_kept request verdicts None a e = cc
once_kept request [] (Some reason) a e = cc
once_kept request (v ∷ verdicts) (Some reason) a e = once (ChairAction request (v ∷ verdicts) reason) a e tt

once_action : (request : ℕ) (kept : Option (Option (List ℕ))) (o : Option (List (ℕ × Verdict))) (a : Ask)
    → option_and_then (λ verdicts. option_and_then (chair_action request verdicts) kept) o ≡ Some a → AreOnce a
once_action request kept None a e = cc
once_action request kept (Some verdicts) a e = once_kept request verdicts kept a e

once_chair : (o : Option (ℕ × List Attr)) (a : Ask) → option_and_then chair_asked o ≡ Some a → AreOnce a
once_chair None a e = cc
once_chair (Some g) a e = once_action g.0 (reason_kept g.1) (given (floors_judged g.1)) a e

once_fields : (p : Primitive) (attrs : List Attr) (a : Ask) → fields p attrs ≡ Some a → AreOnce a
once_fields primitive.FloorRequest attrs a e =
    once_request (distinct (numbers FLOOR_ID attrs)) (first (numbers BENEFICIARY_ID attrs)) (priority_asked (first (pairs PRIORITY attrs)))
    (text_kept 62 (first (octet_strings PARTICIPANT_PROVIDED_INFO attrs))) a e
once_fields primitive.FloorRelease attrs a e = once_of FloorRelease (first (numbers FLOOR_REQUEST_ID attrs)) a (λ n. tt) e
once_fields primitive.FloorRequestQuery attrs a e = once_of FloorRequestQuery (first (numbers FLOOR_REQUEST_ID attrs)) a (λ n. tt) e
once_fields primitive.UserQuery attrs a e = once (UserQuery (first (numbers BENEFICIARY_ID attrs))) a e tt
once_fields primitive.FloorQuery attrs a e = once (FloorQuery (distinct (numbers FLOOR_ID attrs))) a e (once_by-once (λ n. n) (numbers FLOOR_ID attrs))
once_fields primitive.ChairAction attrs a e = once_chair (first (groups FLOOR_REQUEST_INFORMATION attrs)) a e
once_fields primitive.Hello attrs a e = once Hello a e tt
once_fields primitive.FloorRequestStatus attrs a e = cc
once_fields primitive.UserStatus attrs a e = cc
once_fields primitive.FloorStatus attrs a e = cc
once_fields primitive.ChairActionAck attrs a e = cc
once_fields primitive.HelloAck attrs a e = cc
once_fields primitive.Error attrs a e = cc

-- what is asked, if anything is
found : (o : Option Ask) (a : Ask) → asks_if_any o ≡ asks a → o ≡ Some a
found None a e = cc
found (Some b) a e = cc

once_wanted : (p : Option Primitive) (attrs : Option Attributes) (a : Ask) → wanted p attrs ≡ Some a → AreOnce a
once_wanted None attrs a e = cc
once_wanted (Some p) None a e = cc
once_wanted (Some p) (Some attrs) a e = once_fields p (items attrs) a e

-- a check that refuses doesn't apply where something is asked
passed : (b : Bool) (kind : ErrorCode) (details : List ℕ) (checks : List Check) (other : Answer) (a : Ask) →
    first_of (when b (refused kind details) ∷ checks) other ≡ asks a → first_of checks other ≡ asks a
passed true kind details checks other a e = cc
passed false kind details checks other a e = e

-- nor one that leaves the message unanswered
answered : (b : Bool) (checks : List Check) (other : Answer) (a : Ask) → first_of (when b unanswered ∷ checks) other ≡ asks a → first_of checks other ≡ asks a
answered true checks other a e = cc
answered false checks other a e = e

-- what is asked is what the attributes ask
pub asked-wanted : (h : CommonHeader) (b : Binding) (p : Option Primitive) (attrs : Option Attributes) (a : Ask) →
    first_of (checks h b p attrs) (asks_if_any (wanted p attrs)) ≡ asks a → wanted p attrs ≡ Some a
asked-wanted h b p attrs a e =
    let types = unknown_types attrs in
    let other = asks_if_any (wanted p attrs) in
    let nothing : List Check = [] in
    let unread : List Check = when (not (is_some (wanted p attrs))) (refused code.UnableToParseMessage []) ∷ nothing in
    let unknown : List Check = when (has_any types) (refused code.UnknownMandatoryAttribute (map (λ k. 2 * k) types)) ∷ unread in
    let unparsed : List Check = when (not (is_some attrs)) (refused code.UnableToParseMessage []) ∷ unknown in
    let unserved : List Check = when (not (is_served p)) (refused code.UnknownPrimitive []) ∷ unparsed in
    let answered_none : List Check = when (is_error p) unanswered ∷ unserved in
    let other_user : List Check = when (not (h.user == b.user)) (refused code.UnauthorizedOperation []) ∷ answered_none in
    let no_user : List Check = when (not (list_any (λ u. u == h.user) b.users)) (refused code.UserDoesNotExist []) ∷ other_user in
    let no_conference : List Check = when (not (h.conference == b.conference)) (refused code.ConferenceDoesNotExist []) ∷ no_user in
    let e2 = passed (not (h.version == 1)) code.UnsupportedVersion [] no_conference other a e in
    let e3 = passed (not (h.conference == b.conference)) code.ConferenceDoesNotExist [] no_user other a e2 in
    let e4 = passed (not (list_any (λ u. u == h.user) b.users)) code.UserDoesNotExist [] other_user other a e3 in
    let e5 = passed (not (h.user == b.user)) code.UnauthorizedOperation [] answered_none other a e4 in
    let e6 = answered (is_error p) unserved other a e5 in
    let e7 = passed (not (is_served p)) code.UnknownPrimitive [] unparsed other a e6 in
    let e8 = passed (not (is_some attrs)) code.UnableToParseMessage [] unknown other a e7 in
    let e9 = passed (has_any types) code.UnknownMandatoryAttribute (map (λ k. 2 * k) types) unread other a e8 in
    found (wanted p attrs) a (passed (not (is_some (wanted p attrs))) code.UnableToParseMessage [] nothing other a e9)

once_answer : (h : CommonHeader) (b : Binding) (p : Option Primitive) (attrs : Option Attributes) (a : Ask) →
    first_of (checks h b p attrs) (asks_if_any (wanted p attrs)) ≡ asks a → AreOnce a
once_answer h b p attrs a e = once_wanted p attrs a (asked-wanted h b p attrs a e)

-- the floors that a FloorQuery asks about differ
pub asked_once : (bytes : List ℕ) (b : Binding) (floors : List ℕ) → ask bytes b ≡ asks (FloorQuery floors) → IsOnceBy (λ n. n) floors
unfolding ask
asked_once bytes b floors e = once_answer (header_of bytes) b (primitive_of (header_of bytes).primitive) (spelled (drop 12 bytes)) (FloorQuery floors) e
