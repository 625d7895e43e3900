-- Whose token another has behind it, one after another as a loop does.
use Rattle.std.proofs.Common.{◌≡◌, ℕ, Bool, true, false, ◌||◌, List, [], ◌∷◌, Option, Some, None, refl, ap, bytes_eq, string_bytes}
use Rattle.std.specs.List.{list_any}
use Rattle.floor_web.specs.declared.participants.Participant.{Participant}
use Rattle.floor_web.specs.Participants.{Bearer, bearer, bearers, first_double}

taken_is : (token : List ℕ) (ps : List Participant)
    → list_any (λ (x : Bearer). bytes_eq x.token token) (bearers ps) ≡ list_any (λ (p : Participant). bytes_eq (string_bytes p.token) token) ps
taken_is token [] = refl
taken_is token (p ∷ ps) = ap (λ (b : Bool). bytes_eq (string_bytes p.token) token || b) (taken_is token ps)

pub taken_one : (p : Participant) (ps : List Participant) → list_any (λ (q : Participant). bytes_eq (string_bytes q.token) (string_bytes p.token)) ps ≡ true
    → first_double (bearers (p ∷ ps)) ≡ Some (bearer p)
unfolding first_double
taken_one p ps taken = rw (taken_is (string_bytes p.token) ps, taken) refl

pub passed_one : (p : Participant) (ps : List Participant) → list_any (λ (q : Participant). bytes_eq (string_bytes q.token) (string_bytes p.token)) ps ≡ false
    → first_double (bearers (p ∷ ps)) ≡ first_double (bearers ps)
unfolding first_double
passed_one p ps taken = rw (taken_is (string_bytes p.token) ps, taken) refl

pub none_of_none : first_double (bearers []) ≡ None
unfolding first_double
none_of_none = refl
