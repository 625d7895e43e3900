-- What holds of the users that are found in a configuration.
use Rattle.std.proofs.Common.{◌≡◌, ℕ, ◌<◌, Bool, true, false, true≢false, List, [], ◌∷◌, ◌++◌, All, length, Option, Some, None, Result, Ok, Err, refl, sym, ap, ◌∙◌, subst, arith, bytes_eq}
use Rattle.std.specs.Prelude.{◌≢◌, Contains, IfOk, codes, is_some, if◌then◌else◌}
use Rattle.std.specs.List.{list_any}
use Rattle.std.proofs.lemmas.Bool.{or_parts}
use Rattle.std.proofs.lemmas.Bool.Decides.{not_from_Decides}
use Rattle.std.proofs.lemmas.List.Elements.{All-nil, All-cons, All-append, All-weaker, Contains-push, Contains-append_left, Contains-append_right}
use Rattle.std.proofs.lemmas.List.Kept.{AllPairs-cons}
use Rattle.std.proofs.lemmas.Slice.Eq.{bytes_eq-Decides}
use Rattle.toml.specs.Data.{Data, Items, no_items, item, Members, get, get_member, as_str}
use Rattle.toml.specs.Parse.{parse_document}
use Rattle.floor_config.specs.declared.fault.ConfigFault.{ConfigFault}
use Rattle.floor_config.specs.declared.users.User.{User}
use Rattle.floor_config.specs.Configuration.{Configuration}
use Rattle.floor_config.specs.Reading as config
use Rattle.floor_web.specs.declared.participants.Participant.{Participant}
use Rattle.floor_web.specs.declared.participants.ParticipantsFault.{ParticipantsFault}
use Rattle.floor_web.specs.declared.participants.ParticipantsFault.TheVariants.{WeakToken}
use Rattle.floor_web.specs.Participants as spec
use Rattle.floor_web.specs.Participants.{Bearer, Found, each, then_found, first_double, reading, HasStrongToken, AllDiffer, IsUserOf}
use Rattle.floor_web.proofs.Found.{is_found, found_in}

-- ---- each of them

then_all : (P : Bearer → Type 0) (first others : Found) (bs : List Bearer) → then_found first others ≡ Ok bs
    → ((found : List Bearer) → first ≡ Ok found → All P found) → ((found : List Bearer) → others ≡ Ok found → All P found) → All P bs
then_all P (Ok first) (Ok others) bs is f g = subst (λ (l : List Bearer). All P l) (ap found_in is) (All-append P first others (f first refl) (g others refl))
then_all P (Ok first) (Err e) bs is f g = absurd (true≢false (sym (ap is_found is)))
then_all P (Err e) others bs is f g = absurd (true≢false (sym (ap is_found is)))

-- what holds of whomever is found of each holds of all who are found
each_all : {A : Type 0} (P : Bearer → Type 0) (read : A → Data → Found) (xs : List A) (vs : Items) (bs : List Bearer) → each read xs vs ≡ Ok bs
    → ((x : A) → Contains xs x → (v : Data) (found : List Bearer) → read x v ≡ Ok found → All P found) → All P bs
unfolding each
each_all P read [] vs bs is say = subst (λ (l : List Bearer). All P l) (ap found_in is) (All-nil P)
each_all P read (x ∷ xs) no_items bs is say = subst (λ (l : List Bearer). All P l) (ap found_in is) (All-nil P)
each_all P read (x ∷ xs) (item v vs) bs is say =
    then_all P (read x v) (each read xs vs) bs is (λ found h. say x (Contains-append_left (x ∷ []) xs x (Contains-push [] x)) v found h)
    (λ found h. each_all P read xs vs found h (λ y inside. say y (Contains-append_right (x ∷ []) xs y inside)))

-- a user of a conference with this number, who has a strong token
abbrev IsOf : ℕ → User → Bearer → Type 0
IsOf c u b = HasStrongToken b × (b.conference ≡ c) × (b.user ≡ u.id) × (u.port ≡ b.port)

abbrev alone : ℕ → User → List ℕ → Found
alone c u t = Ok (record { token = t; conference = c; user = u.id; port = u.port } ∷ [])

with_strong : (c : ℕ) (u : User) (t : List ℕ) (bs : List Bearer) → spec.is_strong t ≡ true
    → alone c u t ≡ Ok bs → All (IsOf c u) bs
with_strong c u t bs strong is =
    subst (λ (l : List Bearer). All (IsOf c u) l) (ap found_in is)
    (All-cons (IsOf c u) (record { token = t; conference = c; user = u.id; port = u.port }) [] (strong, refl, refl, refl) (All-nil (IsOf c u)))

if_strong_all : (c : ℕ) (u : User) (t : List ℕ) (s : Bool) (bs : List Bearer) → spec.is_strong t ≡ s
    → (if s then alone c u t else Err (WeakToken c u.id)) ≡ Ok bs → All (IsOf c u) bs
if_strong_all c u t true bs strong is = with_strong c u t bs strong is
if_strong_all c u t false bs strong is = absurd (true≢false (sym (ap is_found is)))

with_token_all : (c : ℕ) (u : User) (o : Option (List ℕ)) (bs : List Bearer) → spec.with_token c u o ≡ Ok bs → All (IsOf c u) bs
with_token_all c u None bs is = absurd (true≢false (sym (ap is_found is)))
with_token_all c u (Some t) bs is = if_strong_all c u t (spec.is_strong t) bs refl is

at_token_all : (c : ℕ) (u : User) (o : Option Data) (bs : List Bearer) → spec.at_token c u o ≡ Ok bs → All (IsOf c u) bs
at_token_all c u None bs is = subst (λ (l : List Bearer). All (IsOf c u) l) (ap found_in is) (All-nil (IsOf c u))
at_token_all c u (Some v) bs is = with_token_all c u (as_str v) bs is

abbrev IsIn : Configuration → Bearer → Type 0
IsIn c b = (u : User) × Contains c.users u × IsOf c.conference u b

abbrev IsAmong : List Configuration → Bearer → Type 0
IsAmong cs b = (c : Configuration) × Contains cs c × IsIn c b

conference_all : (c : Configuration) (v : Data) (bs : List Bearer) → spec.of_conference c v ≡ Ok bs → All (IsIn c) bs
conference_all c v bs is =
    each_all (IsIn c) (spec.of_user c.conference) c.users (spec.items_of (get (codes "user") v)) bs is
    (λ u inside value found h. All-weaker (IsOf c.conference u) (IsIn c) (λ b held. (u, inside, held)) found (at_token_all c.conference u (get (codes "token") value) found h))

configs_all : (cs : List Configuration) (document : Members) (bs : List Bearer) → spec.of_configs cs document ≡ Ok bs → All (IsAmong cs) bs
configs_all cs document bs is =
    each_all (IsAmong cs) spec.of_conference cs (spec.items_of (get_member (codes "conference") document)) bs is
    (λ c inside value found h. All-weaker (IsIn c) (IsAmong cs) (λ b inner. (c, inside, inner)) found (conference_all c value found h))

-- ---- no two of them

-- a token that nobody has is another than each one's
others : (token : List ℕ) (bs : List Bearer) → list_any (λ (x : Bearer). bytes_eq x.token token) bs ≡ false → All (λ (x : Bearer). token ≢ x.token) bs
others token [] none = All-nil (λ (x : Bearer). token ≢ x.token)
others token (b ∷ bs) none =
    let parts = or_parts (bytes_eq b.token token) (list_any (λ (x : Bearer). bytes_eq x.token token) bs) none in
    All-cons (λ (x : Bearer). token ≢ x.token) b bs
    (λ same. not_from_Decides (bytes_eq b.token token) (bytes_eq-Decides b.token token) parts.0 (sym same))
    (others token bs parts.1)

none_parts : (t : Bool) (b : Bearer) (o : Option Bearer) → (if t then Some b else o) ≡ None → (t ≡ false) × (o ≡ None)
none_parts true b o is = absurd (true≢false (ap is_some is))
none_parts false b o is = (refl, is)

no_double : (bs : List Bearer) → first_double bs ≡ None → AllDiffer bs
unfolding first_double
no_double [] is = λ i j d lt within. absurd (omega (arith, within))
no_double (b ∷ bs) is =
    let parts = none_parts (list_any (λ (x : Bearer). bytes_eq x.token b.token) bs) b (first_double bs) is in
    AllPairs-cons (λ (x : Bearer) (y : Bearer). x.token ≢ y.token) b bs (others b.token bs parts.0) (no_double bs parts.1)

-- ---- all together

abbrev IsSound : List ℕ → List Bearer → Type 0
IsSound text bs = (0 < length bs) × All (IsUserOf text) bs × All HasStrongToken bs × AllDiffer bs

unless_double_is : (o : Option Bearer) (xs bs : List Bearer) → spec.unless_double o xs ≡ Ok bs → (xs ≡ bs) × (o ≡ None) × (0 < length bs)
unless_double_is (Some b) xs bs is = absurd (true≢false (sym (ap is_found is)))
unless_double_is None [] bs is = absurd (true≢false (sym (ap is_found is)))
unless_double_is None (x ∷ xs) bs is = let same : x ∷ xs ≡ bs = ap found_in is in (same, refl, subst (λ (l : List Bearer). 0 < length l) same (omega arith))

with_user : (text : List ℕ) (cs : List Configuration) → config.reading text ≡ Ok cs → (b : Bearer) → IsAmong cs b → IsUserOf text b
with_user text cs read b among = record {
  configs = cs;
  conference = among.0;
  user = among.2.0;
  read = read;
  has_conference = among.1;
  has_user = among.2.1;
  number = among.2.2.1;
  id = among.2.2.2;
  port = among.2.2.3;
}

checked_is : (text : List ℕ) (cs : List Configuration) (document : Members) (found : Found) (bs : List Bearer) → config.reading text ≡ Ok cs
    → spec.of_configs cs document ≡ found → spec.checked found ≡ Ok bs → IsSound text bs
checked_is text cs document (Err e) bs read reads is = absurd (true≢false (sym (ap is_found is)))
checked_is text cs document (Ok xs) bs read reads is =
    let p = unless_double_is (first_double xs) xs bs is in
    let all = subst (λ (l : List Bearer). All (IsAmong cs) l) p.0 (configs_all cs document xs reads) in (
      p.2,
      All-weaker (IsAmong cs) (IsUserOf text) (with_user text cs read) bs all,
      All-weaker (IsAmong cs) HasStrongToken (λ b among. among.2.2.0) bs all,
      no_double bs (subst (λ (l : List Bearer). first_double l ≡ None) p.0 p.1),
    )

document_is : (text : List ℕ) (document : Option Members) (configs : Result (List Configuration) ConfigFault) (bs : List Bearer) → config.reading text ≡ configs
    → spec.of_document document configs ≡ Ok bs → IsSound text bs
document_is text None configs bs read is = absurd (true≢false (sym (ap is_found is)))
document_is text (Some document) (Err e) bs read is = absurd (true≢false (sym (ap is_found is)))
document_is text (Some document) (Ok cs) bs read is = checked_is text cs document (spec.of_configs cs document) bs read refl is

sound : (text : List ℕ) (bs : List Bearer) → spec.reading text ≡ Ok bs → IsSound text bs
unfolding reading
sound text bs is = document_is text (parse_document text) (config.reading text) bs refl is

gives_sound : (text : List ℕ) (r : Result (List Participant) ParticipantsFault) → spec.Gives r (spec.reading text) → IfOk r (λ found. IsSound text (spec.bearers found))
gives_sound text (Ok found) gives = sound text (spec.bearers found) gives
gives_sound text (Err e) gives = tt

pub gives_users : (text : List ℕ) (r : Result (List Participant) ParticipantsFault) → spec.Gives r (spec.reading text) → IfOk r (λ found. All (IsUserOf text) (spec.bearers found))
gives_users text (Ok found) gives = (gives_sound text (Ok found) gives).1
gives_users text (Err e) gives = tt

pub gives_strong : (text : List ℕ) (r : Result (List Participant) ParticipantsFault) → spec.Gives r (spec.reading text) → IfOk r (λ found. All HasStrongToken (spec.bearers found))
gives_strong text (Ok found) gives = (gives_sound text (Ok found) gives).2
gives_strong text (Err e) gives = tt

pub gives_differ : (text : List ℕ) (r : Result (List Participant) ParticipantsFault) → spec.Gives r (spec.reading text) → IfOk r (λ found. AllDiffer (spec.bearers found))
gives_differ text (Ok found) gives = (gives_sound text (Ok found) gives).3
gives_differ text (Err e) gives = tt
