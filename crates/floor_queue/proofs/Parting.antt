-- The parties of requests: what is found of a user, and what stays after each change.
use Rattle.std.proofs.Common.{◌≡◌, ℕ, ◌+◌, zero, suc, Bool, true, false, cond, List, [], ◌∷◌, ◌++◌, get_or, take, drop, refl, sym, ◌∙◌, ap, arith, map}
use Rattle.std.specs.Prelude.{not, ◌||◌, ◌==◌, if◌then◌else◌, nat_le, nat_lt, filter, insert}
use Rattle.std.specs.List.{list_all, position_or_len}
use Rattle.std.specs.List.Sorted.{IsPartitionedBy}
use Rattle.std.proofs.Math.Numerals.{one-add}
use Rattle.std.proofs.lemmas.Bool.{eqb-true}
use Rattle.std.proofs.lemmas.Bool.Decides.{nat_tests}
use Rattle.std.proofs.lemmas.List.{map-append}
use Rattle.std.proofs.lemmas.List.Elements.{filter-append}
use Rattle.std.proofs.lemmas.List.Sums.{AllPass-from_list_all}
use Rattle.floor_queue.specs.declared.index.parties.Party.{Party}
use Rattle.floor_queue.specs.declared.request.Request.{Request}
use Rattle.floor_queue.specs.Queue.{involves, numbers_of, without}
use Rattle.floor_queue.specs.steps.Parties.{AreParties, by_user, numbers_with, with_party, with_parties}
use Rattle.floor_queue.proofs.Counts.{and_left, and_right, and_both, list_all_mono}

-- the order ----------------------------------------------------------------------------------

le_over : (a b c : ℕ) → nat_le a b ≡ true → nat_le b c ≡ true → nat_le a c ≡ true
le_over a b c e f = grind (arith, nat_tests)

le_other : (a b : ℕ) → nat_le a b ≡ false → nat_le b a ≡ true
le_other a b e = grind (arith, nat_tests)

list_all-with_party : (t : Party → Bool) (p : Party) (qs : List Party) → t p ≡ true → list_all t qs ≡ true → list_all t (with_party p qs) ≡ true
list_all-with_party t p [] h all = and_both _ _ h refl
list_all-with_party t p (q ∷ qs) h all = by (nat_le q.user p.user) (list_all-with_party t p qs h (and_right _ _ all))
  where
    by : (b : Bool) → list_all t (with_party p qs) ≡ true → list_all t (if b then q ∷ with_party p qs else p ∷ q ∷ qs) ≡ true
    by true rest = and_both _ _ (and_left _ _ all) rest
    by false rest = and_both _ _ h all

pub by_user-with_party : (p : Party) (qs : List Party) → by_user qs ≡ true → by_user (with_party p qs) ≡ true
by_user-with_party p [] h = refl
by_user-with_party p (q ∷ qs) h = by (nat_le q.user p.user) refl (by_user-with_party p qs (and_right _ _ h))
  where
    by : (b : Bool) → nat_le q.user p.user ≡ b → by_user (with_party p qs) ≡ true → by_user (if b then q ∷ with_party p qs else p ∷ q ∷ qs) ≡ true
    by true e rest = and_both _ _ (list_all-with_party (λ r. nat_le q.user r.user) p qs e (and_left _ _ h)) rest
    by false e rest =
        and_both _ _
        (and_both _ _ (le_other q.user p.user e) (list_all_mono (λ (r : Party). nat_le q.user r.user) (λ (r : Party). nat_le p.user r.user) (λ r u. le_over p.user q.user r.user (le_other q.user p.user e) u) qs (and_left _ _ h))) h

list_all-filter : {X : Type 0} (t p : X → Bool) (xs : List X) → list_all t xs ≡ true → list_all t (filter p xs) ≡ true
list_all-filter t p [] h = refl
list_all-filter t p (x ∷ xs) h = by (p x) (list_all-filter t p xs (and_right _ _ h))
  where
    by : (b : Bool) → list_all t (filter p xs) ≡ true → list_all t (cond b (x ∷ filter p xs) (filter p xs)) ≡ true
    by true rest = and_both _ _ (and_left _ _ h) rest
    by false rest = rest

pub by_user-filter : (t : Party → Bool) (ps : List Party) → by_user ps ≡ true → by_user (filter t ps) ≡ true
by_user-filter t [] h = refl
by_user-filter t (p ∷ ps) h = by (t p) (by_user-filter t ps (and_right _ _ h))
  where
    by : (b : Bool) → by_user (filter t ps) ≡ true → by_user (cond b (p ∷ filter t ps) (filter t ps)) ≡ true
    by true rest = and_both _ _ (list_all-filter (λ q. nat_le p.user q.user) t ps (and_left _ _ h)) rest
    by false rest = rest

pub by_user-drop : (n : ℕ) (ps : List Party) → by_user ps ≡ true → by_user (drop n ps) ≡ true
by_user-drop zero ps h = h
by_user-drop (suc n) [] h = refl
by_user-drop (suc n) (p ∷ ps) h = by_user-drop n ps (and_right _ _ h)

-- a party, for places beyond the list
pub nobody : Party
nobody = record { user = 0; number = 0 }

-- those of lower users come first
pub partitioned-below : (user : ℕ) (ps : List Party) → by_user ps ≡ true → IsPartitionedBy (λ p. nat_lt p.user user) ps
partitioned-below user [] h i j d l within e = absurd (omega (arith, within))
partitioned-below user (p ∷ ps) h zero zero d l within e = e
partitioned-below user (p ∷ ps) h (suc i) zero d l within e = absurd (omega (arith, l))
partitioned-below user (p ∷ ps) h (suc i) (suc j) d l within e = partitioned-below user ps (and_right _ _ h) i j d (omega (arith, l)) (omega (arith, within)) e
partitioned-below user (p ∷ ps) h zero (suc j) d l within e =
    lower p.user (get_or ps j d).user user (AllPass-from_list_all (λ (q : Party). nat_le p.user q.user) ps (and_left _ _ h) j d (omega (arith, within))) e
  where
    lower : (a b c : ℕ) → nat_le a b ≡ true → nat_lt b c ≡ true → nat_lt a c ≡ true
    lower a b c h k = grind (arith, nat_tests)

pub partitioned-up_to : (user : ℕ) (ps : List Party) → by_user ps ≡ true → IsPartitionedBy (λ p. nat_le p.user user) ps
partitioned-up_to user [] h i j d l within e = absurd (omega (arith, within))
partitioned-up_to user (p ∷ ps) h zero zero d l within e = e
partitioned-up_to user (p ∷ ps) h (suc i) zero d l within e = absurd (omega (arith, l))
partitioned-up_to user (p ∷ ps) h (suc i) (suc j) d l within e = partitioned-up_to user ps (and_right _ _ h) i j d (omega (arith, l)) (omega (arith, within)) e
partitioned-up_to user (p ∷ ps) h zero (suc j) d l within e =
    le_over p.user (get_or ps j d).user user (AllPass-from_list_all (λ (q : Party). nat_le p.user q.user) ps (and_left _ _ h) j d (omega (arith, within))) e

-- the user's parties --------------------------------------------------------------------------

abbrev pub from_user : ℕ → List Party → ℕ
from_user user ps = position_or_len (λ p. not (nat_lt p.user user)) ps

abbrev pub up_to_user : ℕ → List Party → ℕ
up_to_user user ps = position_or_len (λ p. not (nat_le p.user user)) ps

none_of : (user : ℕ) (ps : List Party) → list_all (λ p. nat_lt user p.user) ps ≡ true → filter (λ p. p.user == user) ps ≡ []
none_of user [] h = refl
none_of user (p ∷ ps) h = by (p.user == user) (differs user p.user (and_left _ _ h)) (none_of user ps (and_right _ _ h))
  where
    differs : (a b : ℕ) → nat_lt a b ≡ true → (b == a) ≡ false
    differs a b e = grind (arith, nat_tests)

    by : (b : Bool) → b ≡ false → filter (λ p. p.user == user) ps ≡ [] → cond b (p ∷ filter (λ p. p.user == user) ps) (filter (λ p. p.user == user) ps) ≡ []
    by true e rest = cc
    by false e rest = rest

-- where no party is of a lower user, the user's are the first
first_ones : (user : ℕ) (ps : List Party) → by_user ps ≡ true → list_all (λ p. nat_le user p.user) ps ≡ true → take (up_to_user user ps) ps ≡ filter (λ p. p.user == user) ps
first_ones user [] h low = refl
first_ones user (p ∷ ps) h low = by (nat_le p.user user) (p.user == user) refl refl (first_ones user ps (and_right _ _ h) (and_right _ _ low))
  where
    equal : (a b : ℕ) → nat_le a b ≡ true → nat_le b a ≡ true → (a == b) ≡ true
    equal a b e f = grind (arith, nat_tests)

    above : (a b c : ℕ) → nat_le a b ≡ false → nat_le a c ≡ true → nat_lt b c ≡ true
    above a b c e f = grind (arith, nat_tests)

    over : (a b : ℕ) → nat_le a b ≡ false → (a == b) ≡ false
    over a b e = grind (arith, nat_tests)

    by : (b c : Bool) → nat_le p.user user ≡ b → (p.user == user) ≡ c → take (up_to_user user ps) ps ≡ filter (λ p. p.user == user) ps →
        take (cond (not (not b)) (1 + up_to_user user ps) 0) (p ∷ ps) ≡ cond c (p ∷ filter (λ p. p.user == user) ps) (filter (λ p. p.user == user) ps)
    by true true e f rest = rw (one-add (up_to_user user ps)) (ap (λ (qs : List Party). p ∷ qs) rest)
    by true false e f rest = let k : true ≡ false = sym (equal p.user user e (and_left _ _ low)) ∙ f in cc
    by false true e f rest = let k : true ≡ false = sym f ∙ over p.user user e in cc
    by false false e f rest =
        sym (none_of user ps (list_all_mono (λ (q : Party). nat_le p.user q.user) (λ (q : Party). nat_lt user q.user) (λ q u. above p.user user q.user e u) ps (and_left _ _ h)))

pub found_of : (user : ℕ) (ps : List Party) → by_user ps ≡ true → take (up_to_user user (drop (from_user user ps) ps)) (drop (from_user user ps) ps) ≡ filter (λ p. p.user == user) ps
found_of user [] h = refl
found_of user (p ∷ ps) h = by (nat_lt p.user user) refl (found_of user ps (and_right _ _ h))
  where
    differs : (a b : ℕ) → nat_lt a b ≡ true → (a == b) ≡ false
    differs a b e = grind (arith, nat_tests)

    over : (a b c : ℕ) → nat_lt a b ≡ false → nat_le a c ≡ true → nat_le b c ≡ true
    over a b c e f = grind (arith, nat_tests)

    self : (a b : ℕ) → nat_lt a b ≡ false → nat_le b a ≡ true
    self a b e = grind (arith, nat_tests)

    skip : (c : Bool) (a qs : List Party) → c ≡ false → a ≡ qs → a ≡ cond c (p ∷ qs) qs
    skip true a qs e f = cc
    skip false a qs e f = f

    by : (b : Bool) → nat_lt p.user user ≡ b → take (up_to_user user (drop (from_user user ps) ps)) (drop (from_user user ps) ps) ≡ filter (λ p. p.user == user) ps →
        take (up_to_user user (drop (cond (not (not b)) (1 + from_user user ps) 0) (p ∷ ps))) (drop (cond (not (not b)) (1 + from_user user ps) 0) (p ∷ ps)) ≡ filter (λ p. p.user == user) (p ∷ ps)
    by true e rest = rw (one-add (from_user user ps)) (skip (p.user == user) _ _ (differs p.user user e) rest)
    by false e rest =
        first_ones user (p ∷ ps) h
        (and_both _ _ (self p.user user e) (list_all_mono (λ (q : Party). nat_le p.user q.user) (λ (q : Party). nat_le user q.user) (λ q u. over p.user user q.user e u) ps (and_left _ _ h)))

-- a party is put in at its place
pub insert-party : (p : Party) (qs : List Party) → insert qs (up_to_user p.user qs) p ≡ with_party p qs
insert-party p [] = refl
insert-party p (q ∷ qs) = by (nat_le q.user p.user) (insert-party p qs)
  where
    by : (b : Bool) → insert qs (up_to_user p.user qs) p ≡ with_party p qs → insert (q ∷ qs) (cond (not (not b)) (1 + up_to_user p.user qs) 0) p ≡ (if b then q ∷ with_party p qs else p ∷ q ∷ qs)
    by true e = rw (one-add (up_to_user p.user qs)) (ap (λ (rs : List Party). q ∷ rs) e)
    by false e = refl

numbers-with_party : (user : ℕ) (p : Party) (qs : List Party) → by_user qs ≡ true → numbers_with user (with_party p qs) ≡ (if p.user == user then numbers_with user qs ++ p.number ∷ [] else numbers_with user qs)
numbers-with_party user p [] h = by (p.user == user)
  where
    by : (b : Bool) → map (λ (p : Party). p.number) (cond b (p ∷ []) []) ≡ (if b then [] ++ p.number ∷ [] else [])
    by true = refl
    by false = refl
numbers-with_party user p (q ∷ qs) h = by (nat_le q.user p.user) refl (numbers-with_party user p qs (and_right _ _ h))
  where
    over : (a b c : ℕ) → nat_le a b ≡ false → nat_le a c ≡ true → nat_lt b c ≡ true
    over a b c e f = grind (arith, nat_tests)

    self : (a b : ℕ) → nat_le a b ≡ false → nat_lt b a ≡ true
    self a b e = grind (arith, nat_tests)

    later : (b c : Bool) (ms : List ℕ) → map (λ (p : Party). p.number) (filter (λ p. p.user == user) (with_party p qs)) ≡ (if c then ms ++ p.number ∷ [] else ms) → map (λ (p : Party). p.number) (filter (λ p. p.user == user) qs) ≡ ms →
        map (λ (p : Party). p.number) (cond b (q ∷ filter (λ p. p.user == user) (with_party p qs)) (filter (λ p. p.user == user) (with_party p qs)))
        ≡ (if c then map (λ (p : Party). p.number) (cond b (q ∷ filter (λ p. p.user == user) qs) (filter (λ p. p.user == user) qs)) ++ p.number ∷ [] else map (λ (p : Party). p.number) (cond b (q ∷ filter (λ p. p.user == user) qs) (filter (λ p. p.user == user) qs)))
    later true true ms e f = ap (λ (ks : List ℕ). q.number ∷ ks) (e ∙ ap (λ (ks : List ℕ). ks ++ p.number ∷ []) (sym f))
    later true false ms e f = ap (λ (ks : List ℕ). q.number ∷ ks) (e ∙ sym f)
    later false true ms e f = e ∙ ap (λ (ks : List ℕ). ks ++ p.number ∷ []) (sym f)
    later false false ms e f = e ∙ sym f

    here : (c : Bool) → (p.user == user) ≡ c → nat_le q.user p.user ≡ false →
        map (λ (p : Party). p.number) (cond c (p ∷ filter (λ p. p.user == user) (q ∷ qs)) (filter (λ p. p.user == user) (q ∷ qs)))
        ≡ (if c then numbers_with user (q ∷ qs) ++ p.number ∷ [] else numbers_with user (q ∷ qs))
    here true e l =
        let none : filter (λ p. p.user == user) (q ∷ qs) ≡ [] =
        none_of user (q ∷ qs)
        (and_both _ _ (ap (λ k. nat_lt k q.user) (sym (eqb-true p.user user e)) ∙ self q.user p.user l)
        (list_all_mono (λ (r : Party). nat_le q.user r.user) (λ (r : Party). nat_lt user r.user) (λ r u. ap (λ k. nat_lt k r.user) (sym (eqb-true p.user user e)) ∙ over q.user p.user r.user l u) qs (and_left _ _ h))) in
        ap (λ (rs : List Party). map (λ (p : Party). p.number) (p ∷ rs)) none ∙ sym (ap (λ (rs : List Party). map (λ (p : Party). p.number) rs ++ p.number ∷ []) none)
    here false e l = refl

    by : (b : Bool) → nat_le q.user p.user ≡ b → numbers_with user (with_party p qs) ≡ (if p.user == user then numbers_with user qs ++ p.number ∷ [] else numbers_with user qs) →
        numbers_with user (if b then q ∷ with_party p qs else p ∷ q ∷ qs) ≡ (if p.user == user then numbers_with user (q ∷ qs) ++ p.number ∷ [] else numbers_with user (q ∷ qs))
    by true e rest = later (q.user == user) (p.user == user) (numbers_with user qs) rest refl
    by false e rest = here (p.user == user) refl e

numbers-without : (user k : ℕ) (ps : List Party) → numbers_with user (filter (λ p. not (p.number == k)) ps) ≡ filter (λ n. not (n == k)) (numbers_with user ps)
numbers-without user k [] = refl
numbers-without user k (p ∷ ps) = by (p.user == user) (p.number == k) refl refl (numbers-without user k ps)
  where
    by : (a b : Bool) → (p.user == user) ≡ a → (p.number == k) ≡ b → numbers_with user (filter (λ p. not (p.number == k)) ps) ≡ filter (λ n. not (n == k)) (numbers_with user ps) →
        numbers_with user (cond (not b) (p ∷ filter (λ p. not (p.number == k)) ps) (filter (λ p. not (p.number == k)) ps))
        ≡ filter (λ n. not (n == k)) (map (λ (p : Party). p.number) (cond a (p ∷ filter (λ p. p.user == user) ps) (filter (λ p. p.user == user) ps)))
    by true true a b e = rw b e
    by true false a b e = rw (a, b) (ap (λ (ns : List ℕ). p.number ∷ ns) e)
    by false true a b e = e
    by false false a b e = rw a e

-- each change ---------------------------------------------------------------------------------

-- the numbers of the user's requests
abbrev of_user : List Request → ℕ → List ℕ
of_user rs user = numbers_of (filter (λ r. involves r user) rs)

pub AreParties-none : AreParties [] []
AreParties-none = record { in_order = refl; each = λ user. refl }

pub AreParties-added : (rs : List Request) (r : Request) (ps : List Party) → AreParties rs ps → AreParties (rs ++ r ∷ []) (with_parties r.requester r.beneficiary r.number ps)
AreParties-added rs r ps h =
    record {
      in_order = order (r.requester == r.beneficiary);
      each = λ user.
          by user (r.requester == r.beneficiary) (r.requester == user) (r.beneficiary == user) refl refl refl (once user) (twice user)
          ∙ sym (added user (involves r user) refl);
    }
  where
    first : Party
    first = record { user = r.requester; number = r.number }

    second : Party
    second = record { user = r.beneficiary; number = r.number }

    order : (b : Bool) → by_user (if b then with_party first ps else with_party second (with_party first ps)) ≡ true
    order true = by_user-with_party first ps h.in_order
    order false = by_user-with_party second (with_party first ps) (by_user-with_party first ps h.in_order)

    nothing_more : (ns : List ℕ) → ns ++ [] ≡ ns
    nothing_more [] = refl
    nothing_more (n ∷ ns) = ap (λ (ms : List ℕ). n ∷ ms) (nothing_more ns)

    added : (user : ℕ) (b : Bool) → involves r user ≡ b → of_user (rs ++ r ∷ []) user ≡ (if b then of_user rs user ++ r.number ∷ [] else of_user rs user)
    added user b i =
        rw (filter-append (λ (q : Request). involves q user) rs (r ∷ []), map-append (λ (q : Request). q.number) (filter (λ (q : Request). involves q user) rs) (filter (λ (q : Request). involves q user) (r ∷ [])), i)
        (last b)
      where
        last : (b : Bool) → of_user rs user ++ map (λ (q : Request). q.number) (cond b (r ∷ []) []) ≡ (if b then of_user rs user ++ r.number ∷ [] else of_user rs user)
        last true = refl
        last false = nothing_more (of_user rs user)

    equal : (a b c : ℕ) → (a == b) ≡ true → (a == c) ≡ (b == c)
    equal a b c e = grind (arith, nat_tests)

    both : (a b c : ℕ) → (a == c) ≡ true → (b == c) ≡ true → (a == b) ≡ true
    both a b c e f = grind (arith, nat_tests)

    once : (user : ℕ) → numbers_with user (with_party first ps) ≡ (if r.requester == user then of_user rs user ++ r.number ∷ [] else of_user rs user)
    once user =
        numbers-with_party user first ps h.in_order
        ∙ ap (λ (ns : List ℕ). if r.requester == user then ns ++ r.number ∷ [] else ns) (h.each user)

    twice : (user : ℕ) → numbers_with user (with_party second (with_party first ps)) ≡ (if r.beneficiary == user then numbers_with user (with_party first ps) ++ r.number ∷ [] else numbers_with user (with_party first ps))
    twice user = numbers-with_party user second (with_party first ps) (by_user-with_party first ps h.in_order)

    by : (user : ℕ) (b c d : Bool) → (r.requester == r.beneficiary) ≡ b → (r.requester == user) ≡ c → (r.beneficiary == user) ≡ d →
        numbers_with user (with_party first ps) ≡ (if c then of_user rs user ++ r.number ∷ [] else of_user rs user) →
        numbers_with user (with_party second (with_party first ps)) ≡ (if d then numbers_with user (with_party first ps) ++ r.number ∷ [] else numbers_with user (with_party first ps)) →
        numbers_with user (if b then with_party first ps else with_party second (with_party first ps)) ≡ (if c || d then of_user rs user ++ r.number ∷ [] else of_user rs user)
    by user true true d e f g one two = one
    by user true false true e f g one two = let k : false ≡ true = sym f ∙ equal r.requester r.beneficiary user e ∙ g in cc
    by user true false false e f g one two = one
    by user false true true e f g one two = let k : false ≡ true = sym e ∙ both r.requester r.beneficiary user f g in cc
    by user false true false e f g one two = two ∙ one
    by user false false true e f g one two = two ∙ ap (λ (ns : List ℕ). ns ++ r.number ∷ []) one
    by user false false false e f g one two = two ∙ one

pub AreParties-ended : (rs : List Request) (k : ℕ) (ps : List Party) → AreParties rs ps → AreParties (without k rs) (filter (λ p. not (p.number == k)) ps)
AreParties-ended rs k ps h =
    record {
      in_order = by_user-filter (λ p. not (p.number == k)) ps h.in_order;
      each = λ user. numbers-without user k ps ∙ ap (filter (λ n. not (n == k))) (h.each user) ∙ swapped user rs;
    }
  where
    swapped : (user : ℕ) (qs : List Request) → filter (λ n. not (n == k)) (of_user qs user) ≡ of_user (without k qs) user
    swapped user [] = refl
    swapped user (q ∷ qs) = by (involves q user) (q.number == k) refl refl (swapped user qs)
      where
        by : (a b : Bool) → involves q user ≡ a → (q.number == k) ≡ b → filter (λ n. not (n == k)) (of_user qs user) ≡ of_user (without k qs) user →
            filter (λ n. not (n == k)) (numbers_of (cond a (q ∷ filter (λ r. involves r user) qs) (filter (λ r. involves r user) qs))) ≡ of_user (cond (not b) (q ∷ without k qs) (without k qs)) user
        by true true a b e = rw b e
        by true false a b e = rw (a, b) (ap (λ (ns : List ℕ). q.number ∷ ns) e)
        by false true a b e = e
        by false false a b e = rw a e

-- what leaves each request's number and users leaves its parties
pub AreParties-kept : (g : Request → Request) → ((r : Request) → (g r).number ≡ r.number) → ((r : Request) (user : ℕ) → involves (g r) user ≡ involves r user) → (rs : List Request) (ps : List Party) →
    AreParties rs ps → AreParties (map g rs) ps
AreParties-kept g number same rs ps h = record { in_order = h.in_order; each = λ user. h.each user ∙ sym (kept user rs) }
  where
    kept : (user : ℕ) (qs : List Request) → of_user (map g qs) user ≡ of_user qs user
    kept user [] = refl
    kept user (q ∷ qs) = by (involves (g q) user) (involves q user) (same q user) (kept user qs)
      where
        by : (a b : Bool) → a ≡ b → of_user (map g qs) user ≡ of_user qs user →
            numbers_of (cond a (g q ∷ filter (λ r. involves r user) (map g qs)) (filter (λ r. involves r user) (map g qs))) ≡ numbers_of (cond b (q ∷ filter (λ r. involves r user) qs) (filter (λ r. involves r user) qs))
        by true true e rest = rw (number q, rest) refl
        by true false e rest = cc
        by false true e rest = cc
        by false false e rest = rest
