-- A floor is among those of the changed requests exactly where the requests that name it are shown otherwise than before.
use Rattle.std.proofs.Common.{◌≡◌, ℕ, Bool, true, false, cond, List, [], ◌∷◌, ◌++◌, map, Option, Some, None, refl, sym, ap, ◌∙◌, arith}
use Rattle.std.specs.Prelude.{◌==◌, ◌&&◌, ◌||◌, not, nat_lt}
use Rattle.std.specs.List.{flat_map, list_all, list_any}
use Rattle.std.proofs.lemmas.Bool.Decides.{nat_tests}
use Rattle.std.proofs.lemmas.List.Elements.{filter-append}
use Rattle.floor_message.specs.declared.information.Info.{Info}
use Rattle.floor_machine.specs.Reply.{infos_on}
use Rattle.floor_machine.specs.Same.{same_info, same_infos}
use Rattle.floor_machine.specs.steps.Renewing.{floors_moved, floors_shown}
use Rattle.floor_machine.specs.steps.Serving.{is_rising}
use Rattle.floor_machine.specs.steps.Telling.{listed}
use Rattle.floor_machine.proofs.Found.{and_left, and_right}
use Rattle.floor_machine.proofs.Places.{IsKeyed}
use Rattle.floor_machine.proofs.SameInfo.{info_equal, infos_same_is_equal}

-- the request that is shown names the floor
abbrev shows : ℕ → Info → Bool
shows floor i = list_any (λ f. f.0 == floor) i.floors

pub any-append : {A : Type 0} (p : A → Bool) (xs ys : List A) → list_any p (xs ++ ys) ≡ (list_any p xs || list_any p ys)
any-append p [] ys = refl
any-append p (x ∷ xs) ys = by (p x) (any-append p xs ys)
  where
    by : (b : Bool) → list_any p (xs ++ ys) ≡ (list_any p xs || list_any p ys) → (b || list_any p (xs ++ ys)) ≡ ((b || list_any p xs) || list_any p ys)
    by true h = refl
    by false h = h

any-floor : (floor : ℕ) (fs : List (ℕ × Option (ℕ × ℕ))) → list_any (λ f. f == floor) (map (λ (f : ℕ × Option (ℕ × ℕ)). f.0) fs) ≡ list_any (λ f. f.0 == floor) fs
any-floor floor [] = refl
any-floor floor (f ∷ fs) = ap (λ (b : Bool). (f.0 == floor) || b) (any-floor floor fs)

any-shown : (floor : ℕ) (i : Info) → list_any (λ f. f == floor) (floors_shown i) ≡ shows floor i
any-shown floor i = any-floor floor i.floors

same-own : (is : List Info) → same_infos is is ≡ true
same-own is = (infos_same_is_equal is is).1 refl

-- the floors of one number
moved-one : (floor : ℕ) (old now : Option Info) → list_any (λ f. f == floor) (floors_moved old now) ≡ not (same_infos (infos_on floor (listed old)) (infos_on floor (listed now)))
moved-one floor None None = refl
moved-one floor (Some i) None = any-shown floor i ∙ by (shows floor i)
  where
    by : (b : Bool) → b ≡ not (same_infos (cond b (i ∷ []) []) [])
    by true = refl
    by false = refl
moved-one floor None (Some j) = any-shown floor j ∙ by (shows floor j)
  where
    by : (b : Bool) → b ≡ not (same_infos [] (cond b (j ∷ []) []))
    by true = refl
    by false = refl
moved-one floor (Some i) (Some j) = by (same_info i j) refl
  where
    others : same_info i j ≡ false → (b d : Bool) → (b || d) ≡ not (same_infos (cond b (i ∷ []) []) (cond d (j ∷ []) []))
    others e true true = rw e refl
    others e true false = refl
    others e false true = refl
    others e false false = refl

    by : (b : Bool) → same_info i j ≡ b →
        list_any (λ f. f == floor) (cond (not b) (floors_shown i ++ floors_shown j) []) ≡ not (same_infos (infos_on floor (i ∷ [])) (infos_on floor (j ∷ [])))
    by true e =
        let same : i ≡ j = info_equal i j e in
        sym (ap not (ap (λ (x : Info). same_infos (infos_on floor (i ∷ [])) (infos_on floor (x ∷ []))) (sym same) ∙ same-own (infos_on floor (i ∷ []))))
    by false e =
        any-append (λ f. f == floor) (floors_shown i) (floors_shown j)
        ∙ ap (λ (b : Bool). b || list_any (λ f. f == floor) (floors_shown j)) (any-shown floor i)
        ∙ ap (λ (b : Bool). shows floor i || b) (any-shown floor j)
        ∙ others e (shows floor i) (shows floor j)

-- infos of different requests aren't alike
apart : (i j : Info) → (i.request == j.request) ≡ false → same_info i j ≡ false
apart i j h = by (same_info i j) refl
  where
    clash : i ≡ j → true ≡ false
    clash same = sym (own i.request) ∙ ap (λ (x : Info). i.request == x.request) same ∙ h
      where
        own : (n : ℕ) → (n == n) ≡ true
        own n = grind (arith, nat_tests)

    by : (b : Bool) → same_info i j ≡ b → same_info i j ≡ false
    by true e = absurd (let no : true ≡ false = clash (info_equal i j e) in cc)
    by false e = e

-- an info is of a higher number than this
abbrev is_above : ℕ → Info → Bool
is_above n i = nat_lt n i.request

-- an info of a number isn't alike to any of higher ones
unlike-first : (i : Info) (js : List Info) (is : List Info) (n : ℕ) → i.request ≡ n → list_all (is_above n) js ≡ true → same_infos (i ∷ is) js ≡ false
unlike-first i [] is n e h = refl
unlike-first i (j ∷ js) is n e h = ap (λ (b : Bool). b && same_infos is js) (apart i j (other i.request n j.request e (and_left _ _ h)))
  where
    other : (a n b : ℕ) → a ≡ n → nat_lt n b ≡ true → (a == b) ≡ false
    other a n b e l = grind (arith, nat_tests)

unlike-second : (j : Info) (is : List Info) (js : List Info) (n : ℕ) → j.request ≡ n → list_all (is_above n) is ≡ true → same_infos is (j ∷ js) ≡ false
unlike-second j [] js n e h = refl
unlike-second j (i ∷ is) js n e h = ap (λ (b : Bool). b && same_infos is js) (apart i j (other i.request n j.request e (and_left _ _ h)))
  where
    other : (a n b : ℕ) → b ≡ n → nat_lt n a ≡ true → (a == b) ≡ false
    other a n b e l = grind (arith, nat_tests)

-- the infos of one number, and those of higher ones, are compared apart
same-apart : (floor : ℕ) (old now : Option Info) (is js : List Info) (n : ℕ) →
    ((i : Info) → old ≡ Some i → i.request ≡ n) → ((j : Info) → now ≡ Some j → j.request ≡ n) → list_all (is_above n) is ≡ true → list_all (is_above n) js ≡ true →
    same_infos (infos_on floor (listed old) ++ is) (infos_on floor (listed now) ++ js) ≡ (same_infos (infos_on floor (listed old)) (infos_on floor (listed now)) && same_infos is js)
same-apart floor None None is js n f g h k = refl
same-apart floor (Some i) None is js n f g h k = by (shows floor i)
  where
    by : (b : Bool) → same_infos (cond b (i ∷ []) [] ++ is) js ≡ (same_infos (cond b (i ∷ []) []) [] && same_infos is js)
    by true = unlike-first i js is n (f i refl) k
    by false = refl
same-apart floor None (Some j) is js n f g h k = by (shows floor j)
  where
    by : (b : Bool) → same_infos is (cond b (j ∷ []) [] ++ js) ≡ (same_infos [] (cond b (j ∷ []) []) && same_infos is js)
    by true = unlike-second j is js n (g j refl) h
    by false = refl
same-apart floor (Some i) (Some j) is js n f g h k = by (shows floor i) (shows floor j)
  where
    both : (b d : Bool) → (b && d) ≡ ((b && true) && d)
    both true d = refl
    both false d = refl

    by : (b d : Bool) → same_infos (cond b (i ∷ []) [] ++ is) (cond d (j ∷ []) [] ++ js) ≡ (same_infos (cond b (i ∷ []) []) (cond d (j ∷ []) []) && same_infos is js)
    by true true = both (same_info i j) (same_infos is js)
    by true false = unlike-first i js is n (f i refl) k
    by false true = unlike-second j is js n (g j refl) h
    by false false = refl

-- the infos of higher numbers are of higher numbers
all-above : (floor : ℕ) (at : ℕ → Option Info) (n : ℕ) (ns : List ℕ) → IsKeyed (λ (i : Info). i.request) at → list_all (nat_lt n) ns ≡ true →
    list_all (is_above n) (infos_on floor (flat_map (λ m. listed (at m)) ns)) ≡ true
all-above floor at n [] keyed h = refl
all-above floor at n (m ∷ ns) keyed h =
    ap (list_all (is_above n)) (filter-append (shows floor) (listed (at m)) (flat_map (λ m. listed (at m)) ns))
    ∙ by (at m) refl (all-above floor at n ns keyed (and_right _ _ h))
  where
    rest : List Info
    rest = infos_on floor (flat_map (λ m. listed (at m)) ns)

    one_more : (i : Info) → i.request ≡ m → (b : Bool) → list_all (is_above n) rest ≡ true → list_all (is_above n) (cond b (i ∷ []) [] ++ rest) ≡ true
    one_more i e true k = rw (ap (nat_lt n) e ∙ and_left _ _ h) k
    one_more i e false k = k

    by : (o : Option Info) → at m ≡ o → list_all (is_above n) rest ≡ true → list_all (is_above n) (infos_on floor (listed o) ++ rest) ≡ true
    by None e k = k
    by (Some i) e k = one_more i (keyed m i e) (shows floor i) k

-- the floors of all numbers
pub moved-all : (floor : ℕ) (old now : ℕ → Option Info) (ns : List ℕ) → IsKeyed (λ (i : Info). i.request) old → IsKeyed (λ (i : Info). i.request) now → is_rising ns ≡ true →
    list_any (λ f. f == floor) (flat_map (λ n. floors_moved (old n) (now n)) ns)
    ≡ not (same_infos (infos_on floor (flat_map (λ n. listed (old n)) ns)) (infos_on floor (flat_map (λ n. listed (now n)) ns)))
moved-all floor old now [] f g h = refl
moved-all floor old now (n ∷ ns) f g h =
    let is : List Info = infos_on floor (flat_map (λ m. listed (old m)) ns) in
    let js : List Info = infos_on floor (flat_map (λ m. listed (now m)) ns) in
    any-append (λ f. f == floor) (floors_moved (old n) (now n)) (flat_map (λ n. floors_moved (old n) (now n)) ns)
    ∙ ap (λ (b : Bool). b || list_any (λ f. f == floor) (flat_map (λ n. floors_moved (old n) (now n)) ns)) (moved-one floor (old n) (now n))
    ∙ ap (λ (b : Bool). not (same_infos (infos_on floor (listed (old n))) (infos_on floor (listed (now n)))) || b) (moved-all floor old now ns f g (and_right _ _ h))
    ∙ either (same_infos (infos_on floor (listed (old n))) (infos_on floor (listed (now n)))) (same_infos is js)
    ∙ ap not (sym (same-apart floor (old n) (now n) is js n (f n) (g n) (all-above floor old n ns f (and_left _ _ h)) (all-above floor now n ns g (and_left _ _ h))))
    ∙ ap (λ (xs : List Info). not (same_infos xs (infos_on floor (listed (now n)) ++ js))) (sym (filter-append (shows floor) (listed (old n)) (flat_map (λ m. listed (old m)) ns)))
    ∙ ap (λ (xs : List Info). not (same_infos (infos_on floor (flat_map (λ m. listed (old m)) (n ∷ ns))) xs)) (sym (filter-append (shows floor) (listed (now n)) (flat_map (λ m. listed (now m)) ns)))
  where
    either : (a b : Bool) → (not a || not b) ≡ not (a && b)
    either true b = refl
    either false b = refl
