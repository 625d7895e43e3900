-- What is written of a message from a client is read as that message.
use Rattle.std.proofs.Common.{◌≡◌, ℕ, zero, suc, ◌*◌, ◌/◌, ◌<◌, min, Bool, true, false, not, ◌||◌, List, [], ◌∷◌, ◌++◌, length, map, get_or, Option, Some, None, refl, ◌∙◌, ap, arith, eq-eqb}
use Rattle.std.specs.Prelude.{option_map, option_and_then, option_to_list, filter_map, Contains, if◌then◌else◌, ◌==◌}
use Rattle.std.specs.List.{list_any}
use Rattle.std.proofs.lemmas.List.{append-nil}
use Rattle.floor_wire.specs.Attributes.{Attributes}
use Rattle.floor_wire.specs.Header.{CommonHeader, header_of}
use Rattle.floor_wire.specs.Spelled.{spelled}
use Rattle.floor_wire.specs.Spelling.{IsWritable, canon, cleared}
use Rattle.floor_wire.specs.View.{attributes_of, items}
use Rattle.floor_wire.specs.declared.attribute.Attr.{Attr}
use Rattle.floor_message.specs.Ask.{ask, asks, answer}
use Rattle.floor_message.specs.steps.Answering.{by_header, by_primitive, by_attributes, by_mandatory, by_fields, header_refusal}
use Rattle.floor_message.proofs.Checked.{answer_by_steps}
use Rattle.floor_message.specs.Binding.{Binding}
use Rattle.floor_message.specs.Fields.{fields, floor_request, priority_asked, judged, given, chair_asked, chair_action, floors_judged, status_info_in, overall_status, overall_reason, floor_reason, reason_for, reason_kept}
use Rattle.floor_message.specs.Fits.{HeadFits, AskFits, AskPartsFit, FloorRequestFits, ChairActionFits}
use Rattle.floor_message.specs.Room.{FitsRoom}
use Rattle.floor_message.proofs.AskRooms.{ask_fits_room}
use Rattle.floor_message.specs.Laws.{IsOwn}
use Rattle.floor_message.specs.Picked.{first, numbers, pairs, octet_strings, groups, distinct, once_by, IsOnceBy, mandatory, if_kind, number_in, pair_in, group_in, octets_in}
use Rattle.floor_message.specs.Primitive.{primitive_of, primitive_number}
use Rattle.floor_message.specs.Text.{text_kept}
use Rattle.floor_message.specs.Written.{ask_attrs, ask_bytes, ask_primitive, optional, number, octets, priority_attr, status_attr, status_of, overall_attrs, verdict_attr}
use Rattle.floor_message.specs.declared.head.Head.{Head}
use Rattle.floor_message.specs.declared.code.ErrorCode.TheVariants.{ConferenceDoesNotExist, UserDoesNotExist, UnauthorizedOperation, UnsupportedVersion}
use Rattle.floor_message.specs.declared.verdicts.Verdict.{Verdict}
use Rattle.floor_message.specs.declared.verdicts.Verdict.TheVariants.{Accepted, Granted, Denied, Revoked}
use Rattle.floor_message.specs.declared.ask.Ask.{Ask}
use Rattle.floor_message.specs.declared.ask.Ask.TheVariants.{FloorRequest, FloorRelease, FloorRequestQuery, UserQuery, FloorQuery, ChairAction, Hello}
use Rattle.floor_message.proofs.Cutting.{text_kept_same}
use Rattle.floor_message.proofs.Heads.{headed, conference_back, user_back, primitive_back}
use Rattle.floor_wire.specs.AttrsCode.{items-attributes_of}
use Rattle.floor_message.proofs.Once.{once_by_once}
use Rattle.floor_message.proofs.Plain.{cleared_same, mandatory_none, plain_ask}
use Rattle.floor_message.proofs.RoundTrip.{picked_append, none_picked, all_picked, one_none, one_some, first_of_option, overall_groups, overall_picked, overall_passed}
use Rattle.floor_message.proofs.TellBack.{read_back}

same_list : (xs : List ℕ) → map (λ x. x) xs ≡ xs
same_list [] = refl
same_list (x ∷ xs) = ap (λ l. x ∷ l) (same_list xs)

same_option : {A : Type 0} (o : Option A) → option_map (λ x. x) o ≡ o
same_option None = refl
same_option (Some x) = refl

-- the four parts of a FloorRequest, with what f picks of each
module _ (b : Option ℕ) (floors : List ℕ) (priority : ℕ) (info : Option (List ℕ)) where
  abbrev asked : List Attr
  asked = ask_attrs (FloorRequest b floors priority info)

  picks : {A : Type 0} (f : Attr → Option A) (w x y z : List A) → filter_map f (map (number 2) floors) ≡ w → filter_map f (optional (number 1) b) ≡ x
      → filter_map f (optional (octets 8) info) ≡ y → filter_map f (priority_attr priority ∷ []) ≡ z → filter_map f asked ≡ w ++ x ++ y ++ z
  picks f w x y z p q r s =
      picked_append f (map (number 2) floors ++ optional (number 1) b ++ optional (octets 8) info) (priority_attr priority ∷ [])
      ∙ ap (λ l. l ++ filter_map f (priority_attr priority ∷ [])) (picked_append f (map (number 2) floors ++ optional (number 1) b) (optional (octets 8) info)
      ∙ ap (λ l. l ++ filter_map f (optional (octets 8) info)) (picked_append f (map (number 2) floors) (optional (number 1) b)))
      ∙ ap (λ l. l ++ filter_map f (optional (number 1) b) ++ filter_map f (optional (octets 8) info) ++ filter_map f (priority_attr priority ∷ [])) p
      ∙ ap (λ l. w ++ l ++ filter_map f (optional (octets 8) info) ++ filter_map f (priority_attr priority ∷ [])) q
      ∙ ap (λ l. w ++ x ++ l ++ filter_map f (priority_attr priority ∷ [])) r
      ∙ ap (λ l. w ++ x ++ y ++ l) s

  floors_picked : numbers 2 asked ≡ floors
  floors_picked =
      let f = if_kind number_in 2 in
      picks f (map (λ n. n) floors) [] [] [] (all_picked f (number 2) (λ n. n) (λ n. refl) floors) (one_none f (number 1) (λ n. refl) b) (one_none f (octets 8) (λ n. refl) info) refl
      ∙ (simp append-nil) ∙ same_list floors

  beneficiary_picked : first (numbers 1 asked) ≡ b
  beneficiary_picked =
      let f = if_kind number_in 1 in
      ap first (picks f [] (option_to_list (option_map (λ n. n) b)) [] [] (none_picked f (number 2) (λ n. refl) floors) (one_some f (number 1) (λ n. n) (λ n. refl) b) (one_none f (octets 8) (λ n. refl) info) refl
      ∙ (simp append-nil))
      ∙ first_of_option (option_map (λ n. n) b) ∙ same_option b

  text_picked : first (octet_strings 8 asked) ≡ info
  text_picked =
      let f = if_kind octets_in 8 in
      ap first (picks f [] [] (option_to_list (option_map (λ n. n) info)) [] (none_picked f (number 2) (λ n. refl) floors) (one_none f (number 1) (λ n. refl) b) (one_some f (octets 8) (λ n. n) (λ n. refl) info) refl
      ∙ (simp append-nil))
      ∙ first_of_option (option_map (λ n. n) info) ∙ same_option info

  priority_picked : first (pairs 4 asked) ≡ Some (32 * priority, 0)
  priority_picked =
      let f = if_kind pair_in 4 in
      ap first (picks f [] [] [] ((32 * priority, 0) ∷ []) (none_picked f (number 2) (λ n. refl) floors) (one_none f (number 1) (λ n. refl) b) (one_none f (octets 8) (λ n. refl) info) refl)

  nonempty : (fs : List ℕ) → 0 < length fs → floor_request fs b priority (Some info) ≡ Some (FloorRequest b fs priority info)
  nonempty [] h = absurd (omega arith)
  nonempty (f ∷ fs) h = refl

  floor_request_back : FloorRequestFits floors priority info → fields (ask_primitive (FloorRequest b floors priority info)) asked ≡ Some (FloorRequest b floors priority info)
  floor_request_back fits =
      ap (λ l. floor_request (distinct l) (first (numbers 1 asked)) (priority_asked (first (pairs 4 asked))) (text_kept 62 (first (octet_strings 8 asked)))) floors_picked
      ∙ ap (λ l. floor_request l (first (numbers 1 asked)) (priority_asked (first (pairs 4 asked))) (text_kept 62 (first (octet_strings 8 asked)))) (once_by_once (λ n. n) floors fits.floors_fit.once)
      ∙ ap (λ o. floor_request floors o (priority_asked (first (pairs 4 asked))) (text_kept 62 (first (octet_strings 8 asked)))) beneficiary_picked
      ∙ ap (λ o. floor_request floors b (priority_asked o) (text_kept 62 (first (octet_strings 8 asked)))) priority_picked
      ∙ ap (λ n. floor_request floors b n (text_kept 62 (first (octet_strings 8 asked)))) (let same : min (32 * priority / 32) 4 ≡ priority = omega (arith, fits.priority_fits) in same)
      ∙ ap (λ o. floor_request floors b priority (text_kept 62 o)) text_picked
      ∙ ap (λ o. floor_request floors b priority o) (text_kept_same 62 info fits.text)
      ∙ nonempty floors fits.some

abbrev verdict_group : ℕ × Verdict → ℕ × List Attr
verdict_group v = (v.0, items (attributes_of (status_attr (status_of v.1, 0) ∷ [])))

judged_back : (v : Verdict) (floor : ℕ) → judged None (verdict_group (floor, v)) ≡ (floor, Some v)
judged_back Accepted floor = refl
judged_back Granted floor = refl
judged_back Denied floor = refl
judged_back Revoked floor = refl

all_judged : (vs : List (ℕ × Verdict)) → map (judged None) (map verdict_group vs) ≡ map (λ v. (v.0, Some v.1)) vs
all_judged [] = refl
all_judged (v ∷ vs) = ap (λ x. x ∷ map (judged None) (map verdict_group vs)) (judged_back v.1 v.0) ∙ ap (λ l. (v.0, Some v.1) ∷ l) (all_judged vs)

all_given : (vs : List (ℕ × Verdict)) → given (map (λ v. (v.0, Some v.1)) vs) ≡ Some vs
all_given [] = refl
all_given (v ∷ vs) = ap (λ o. option_map (λ ws. (v.0, v.1) ∷ ws) o) (all_given vs)

any_key : {A B : Type 0} (key : B → ℕ) (f : A → B) (n : ℕ) (xs : List A) → list_any (λ y. key y == n) (map f xs) ≡ list_any (λ x. key (f x) == n) xs
any_key key f n [] = refl
any_key key f n (x ∷ xs) = ap (λ b. (key (f x) == n) || b) (any_key key f n xs)

once_kept_by_key : {A B : Type 0} (key : B → ℕ) (f : A → B) (xs : List A) → IsOnceBy (λ x. key (f x)) xs → IsOnceBy key (map f xs)
once_kept_by_key key f [] h = tt
once_kept_by_key key f (x ∷ xs) h = (any_key key f (key (f x)) xs ∙ h.0, once_kept_by_key key f xs h.1)

chair_nonempty : (request : ℕ) (vs : List (ℕ × Verdict)) (reason : Option (List ℕ)) → 0 < length vs → chair_action request vs reason ≡ Some (ChairAction request vs reason)
chair_nonempty request [] reason h = absurd (omega arith)
chair_nonempty request (v ∷ vs) reason h = refl

-- what a ChairAction holds: its reason, and then its verdicts
module _ (request : ℕ) (vs : List (ℕ × Verdict)) (reason : Option (List ℕ)) where
  abbrev decided : List Attr
  decided = overall_attrs request None reason ++ map verdict_attr vs

  overall_found : groups 18 decided ≡ overall_groups request None reason
  overall_found =
      let f = if_kind group_in 18 in
      picked_append f (overall_attrs request None reason) (map verdict_attr vs)
      ∙ ap (λ l. l ++ filter_map f (map verdict_attr vs)) (overall_picked request None reason)
      ∙ ap (λ l. overall_groups request None reason ++ l) (none_picked f verdict_attr (λ v. refl) vs)
      ∙ append-nil (overall_groups request None reason)

  floors_found : groups 17 decided ≡ map verdict_group vs
  floors_found =
      let f = if_kind group_in 17 in
      picked_append f (overall_attrs request None reason) (map verdict_attr vs)
      ∙ ap (λ l. l ++ filter_map f (map verdict_attr vs)) (overall_passed f (λ n inside. refl) request None reason)
      ∙ all_picked f verdict_attr verdict_group (λ v. refl) vs

  no_overall : overall_status decided ≡ None
  no_overall =
      ap (λ gs. option_and_then (λ g. option_map (λ s. s.0) (first (pairs 5 g.1))) (first gs)) overall_found ∙ by_case reason where
        by_case : (r : Option (List ℕ)) → option_and_then (λ g. option_map (λ s. s.0) (first (pairs 5 g.1))) (first (overall_groups request None r)) ≡ None
        by_case None = refl
        by_case (Some r) = refl

  reason_found : overall_reason decided ≡ reason
  reason_found =
      ap (λ gs. option_and_then (λ g. status_info_in g.1) (first gs)) overall_found ∙ by_case reason where
        by_case : (r : Option (List ℕ)) → option_and_then (λ g. status_info_in g.1) (first (overall_groups request None r)) ≡ r
        by_case None = refl
        by_case (Some r) = refl

  floors_judged_back : IsOnceBy (λ v. v.0) vs → floors_judged decided ≡ map (λ v. (v.0, Some v.1)) vs
  floors_judged_back once =
      ap (λ o. once_by (λ v. v.0) (map (judged o) (groups 17 decided))) no_overall
      ∙ ap (λ gs. once_by (λ v. v.0) (map (judged None) gs)) floors_found
      ∙ ap (λ l. once_by (λ v. v.0) l) (all_judged vs)
      ∙ once_by_once (λ v. v.0) (map (λ v. (v.0, Some v.1)) vs) (once_kept_by_key (λ w. w.0) (λ v. (v.0, Some v.1)) vs once)

  -- no floor has a reason of its own
  none_given : (ws : List (ℕ × Verdict)) → filter_map (λ g. status_info_in g.1) (map verdict_group ws) ≡ []
  none_given [] = refl
  none_given (w ∷ ws) = none_given ws

  no_floor_reason : IsOnceBy (λ v. v.0) vs → floor_reason decided ≡ None
  no_floor_reason once =
      ap (λ gs. first (filter_map (λ g. status_info_in g.1) (once_by (λ g. g.0) gs))) floors_found
      ∙ ap (λ gs. first (filter_map (λ g. status_info_in g.1) gs)) (once_by_once (λ g. g.0) (map verdict_group vs) (once_kept_by_key (λ g. g.0) verdict_group vs once))
      ∙ ap first (none_given vs)

  reason_kept_back : ChairActionFits vs reason → reason_kept decided ≡ Some reason
  reason_kept_back fits =
      ap (λ o. text_kept 30 (reason_for o (floor_reason decided))) reason_found
      ∙ ap (λ o. text_kept 30 (reason_for reason o)) (no_floor_reason fits.verdicts_fit.once)
      ∙ ap (λ o. text_kept 30 o) (by_case reason)
      ∙ text_kept_same 30 reason fits.text where
        by_case : (r : Option (List ℕ)) → reason_for r None ≡ r
        by_case None = refl
        by_case (Some r) = refl

  chair_back : ChairActionFits vs reason → fields (ask_primitive (ChairAction request vs reason)) (ask_attrs (ChairAction request vs reason)) ≡ Some (ChairAction request vs reason)
  chair_back fits =
      ap (λ l. chair_asked (request, l)) (items-attributes_of decided)
      ∙ ap (λ l. option_and_then (λ ws. option_and_then (chair_action request ws) (reason_kept decided)) (given l)) (floors_judged_back fits.verdicts_fit.once)
      ∙ ap (λ o. option_and_then (λ ws. option_and_then (chair_action request ws) (reason_kept decided)) o) (all_given vs)
      ∙ ap (λ o. option_and_then (chair_action request vs) o) (reason_kept_back fits)
      ∙ chair_nonempty request vs reason fits.verdicts_fit.some

floors_query_back : (floors : List ℕ) → IsOnceBy (λ n. n) floors → distinct (numbers 2 (map (number 2) floors)) ≡ floors
floors_query_back floors once =
    ap (λ l. distinct l) (all_picked (if_kind number_in 2) (number 2) (λ n. n) (λ n. refl) floors ∙ same_list floors) ∙ once_by_once (λ n. n) floors once

beneficiary_alone : (b : Option ℕ) → first (numbers 1 (optional (number 1) b)) ≡ b
beneficiary_alone None = refl
beneficiary_alone (Some n) = refl

-- the attributes of an Ask that fits ask it
pub ask_back : (a : Ask) → AskPartsFit a → fields (ask_primitive a) (ask_attrs a) ≡ Some a
ask_back (FloorRequest b floors p info) h = floor_request_back b floors p info h
ask_back (FloorRelease r) h = refl
ask_back (FloorRequestQuery r) h = refl
ask_back (UserQuery b) h = ap (λ o. Some (UserQuery o)) (beneficiary_alone b)
ask_back (FloorQuery floors) h = ap (λ l. Some (FloorQuery l)) (floors_query_back floors h.once)
ask_back (ChairAction r vs reason) h = chair_back r vs reason h
ask_back Hello h = refl

primitive_asks : (a : Ask) (attrs : Option Attributes) → by_primitive (Some (ask_primitive a)) attrs ≡ by_attributes (ask_primitive a) attrs
primitive_asks (FloorRequest b floors p info) attrs = refl
primitive_asks (FloorRelease r) attrs = refl
primitive_asks (FloorRequestQuery r) attrs = refl
primitive_asks (UserQuery b) attrs = refl
primitive_asks (FloorQuery floors) attrs = refl
primitive_asks (ChairAction r vs reason) attrs = refl
primitive_asks Hello attrs = refl

passes : (h : CommonHeader) (b : Binding) → h.version ≡ 1 → (h.conference == b.conference) ≡ true → list_any (λ u. u == h.user) b.users ≡ true → (h.user == b.user) ≡ true
    → header_refusal h b ≡ None
passes h b v c m u =
    ap (λ n. if not (n == 1) then Some UnsupportedVersion else if not (h.conference == b.conference) then Some ConferenceDoesNotExist
    else if not (list_any (λ x. x == h.user) b.users) then Some UserDoesNotExist else if not (h.user == b.user) then Some UnauthorizedOperation else None) v
    ∙ ap (λ t. if not t then Some ConferenceDoesNotExist
    else if not (list_any (λ x. x == h.user) b.users) then Some UserDoesNotExist else if not (h.user == b.user) then Some UnauthorizedOperation else None) c
    ∙ ap (λ t. if not t then Some UserDoesNotExist else if not (h.user == b.user) then Some UnauthorizedOperation else None) m
    ∙ ap (λ t. if not t then Some UnauthorizedOperation else None) u

answer_back : (h : CommonHeader) (b : Binding) (a : Ask) (attrs : Attributes) → header_refusal h b ≡ None → h.primitive ≡ primitive_number (ask_primitive a) → mandatory attrs ≡ []
    → fields (ask_primitive a) (items attrs) ≡ Some a → answer h b (Some attrs) ≡ asks a
answer_back h b a attrs none n m r =
    answer_by_steps h b (Some attrs)
    ∙ ap (λ c. by_header c (primitive_of h.primitive) (Some attrs)) none
    ∙ ap (λ x. by_primitive (primitive_of x) (Some attrs)) n
    ∙ ap (λ p. by_primitive p (Some attrs)) (primitive_back (ask_primitive a))
    ∙ primitive_asks a (Some attrs)
    ∙ ap (λ l. by_mandatory (distinct l) (fields (ask_primitive a) (items attrs))) m
    ∙ ap by_fields r

or_true : (b c : Bool) → c ≡ true → (b || c) ≡ true
or_true true c e = refl
or_true false c e = e

among_at : (user : ℕ) (users : List ℕ) (k : ℕ) → k < length users → get_or users k user ≡ user → list_any (λ u. u == user) users ≡ true
among_at user [] k h e = absurd (omega arith)
among_at user (u ∷ us) zero h e = ap (λ b. b || list_any (λ x. x == user) us) (eq-eqb u user e)
among_at user (u ∷ us) (suc k) h e = or_true (u == user) (list_any (λ x. x == user) us) (among_at user us k (omega arith) e)

among_users : (user : ℕ) (users : List ℕ) → Contains users user → list_any (λ u. u == user) users ≡ true
among_users user users h = among_at user users h.0 h.1 h.2

pub written_ask : ((a : Attributes) → IsWritable a → spelled (canon a) ≡ Some (cleared a)) → (head : Head) (b : Binding) (a : Ask) → HeadFits head → IsOwn head b → AskFits a
    → ask (ask_bytes head a) b ≡ asks a
unfolding ask
written_ask read head b a h own fits =
    let attrs = attributes_of (ask_attrs a) in
    let room : FitsRoom (ask_attrs a) (4 * 65535) = ask_fits_room a fits in
    let p = primitive_number (ask_primitive a) in
    let units = length (canon attrs) / 4 in
    let m = header_of (headed p units head (canon attrs)) in
    let version : m.version ≡ 1 = refl in
    let user : m.user ≡ head.user = user_back p units head (canon attrs) h in
    ap (λ s. answer m b s) (read_back read attrs room.writable (cleared_same attrs (plain_ask a)))
    ∙ answer_back m b a attrs
    (passes m b version (eq-eqb m.conference b.conference (conference_back p units head (canon attrs) h ∙ own.conference))
    (ap (λ u. list_any (λ x. x == u) b.users) user ∙ among_users head.user b.users own.among)
    (eq-eqb m.user b.user (user ∙ own.user)))
    refl (mandatory_none attrs (plain_ask a)) (ap (λ l. fields (ask_primitive a) l) (items-attributes_of (ask_attrs a)) ∙ ask_back a fits.parts)
