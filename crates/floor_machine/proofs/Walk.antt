-- The walk over the numbers of an event, by which what is shown of each request is renewed.
use Rattle.std.proofs.Common.{◌≡◌, ℕ, suc, zero, ◌+◌, ◌<◌, ◌≤◌, Bool, true, false, cond, List, [], ◌∷◌, ◌++◌, length, get_or, take, drop, map, Option, Some, None, refl, sym, ap, ◌∙◌, arith, add-one, append-nil}
use Rattle.std.specs.Prelude.{◌==◌, nat_lt, not, find, option_map}
use Rattle.std.specs.List.{flat_map, list_all, list_any}
use Rattle.std.specs.Option.{option_map_or}
use Rattle.std.proofs.lemmas.Bool.{eqb-true}
use Rattle.std.proofs.lemmas.Grind.{flat_map-append}
use Rattle.std.proofs.lemmas.List.{drop_more, drop_all, length-append, length-map, map-append, take-append-drop, take_all, take_more}
use Rattle.floor_config.specs.Configuration.{Configuration}
use Rattle.floor_queue.specs.declared.request.Request.{Request}
use Rattle.floor_queue.specs.Queue.{request_at}
use Rattle.floor_message.specs.declared.information.Info.{Info}
use Rattle.floor_machine.specs.declared.course.Course.{Course}
use Rattle.floor_machine.specs.declared.course.Ended.{Ended}
use Rattle.floor_machine.specs.declared.tell.changed.Update.{Update}
use Rattle.floor_machine.specs.Shown.{Entry, entry_of, info, info_of}
use Rattle.floor_machine.specs.Reply.{infos_on}
use Rattle.floor_machine.specs.Same.{same_infos}
use Rattle.floor_machine.specs.steps.Marks.{is_marked}
use Rattle.floor_machine.specs.steps.Renewing.{IsCourse, differs, floors_moved, info_here, info_with, left_at, moved, now_at, request_here, update_from}
use Rattle.floor_machine.specs.steps.Serving.{is_rising}
use Rattle.floor_machine.specs.steps.Telling.{AreChanged, entry_at, entry_of_ended, infos_of, listed, shown_at, shown_of, update_at, update_if, update_of, updates}
use Rattle.floor_machine.proofs.Found.{and_left, and_right}
use Rattle.floor_machine.proofs.Moved.{moved-all}
use Rattle.floor_machine.proofs.Places.{IsKeyed, here-number, renewed-number}
use Rattle.floor_machine.proofs.Renewed.{found-number, request-info}

-- what is made of the items of numbers is made of the list of the items
pub listed-map : {A B : Type 0} (f : A → B) (at : ℕ → Option A) (ns : List ℕ) → flat_map (λ n. listed (option_map f (at n))) ns ≡ map f (flat_map (λ n. listed (at n)) ns)
listed-map f at [] = refl
listed-map {A = A} {B = B} f at (n ∷ ns) = by (at n) ∙ ap (λ (ys : List B). map f (listed (at n)) ++ ys) (listed-map f at ns) ∙ sym (map-append f (listed (at n)) (flat_map (λ n. listed (at n)) ns))
  where
    by : (o : Option A) → listed (option_map f o) ++ flat_map (λ n. listed (option_map f (at n))) ns ≡ map f (listed o) ++ flat_map (λ n. listed (option_map f (at n))) ns
    by None = refl
    by (Some x) = refl

pub flat_map-alike : {A B : Type 0} (f g : A → List B) → ((x : A) → f x ≡ g x) → (xs : List A) → flat_map f xs ≡ flat_map g xs
flat_map-alike f g same [] = refl
flat_map-alike {B = B} f g same (x ∷ xs) =
    ap (λ (ys : List B). ys ++ flat_map f xs) (same x) ∙ ap (λ (ys : List B). g x ++ ys) (flat_map-alike f g same xs)

-- the info of a number is that of the request of the number
pub info_with-infos : (config : Configuration) (all rs : List Request) (n : ℕ) → info_with (map (info config all) rs) n ≡ option_map (info config all) (request_at rs n)
info_with-infos config all [] n = refl
info_with-infos config all (r ∷ rs) n =
    ap (λ (k : ℕ). cond (k == n) (Some (info config all r)) (info_with (map (info config all) rs) n)) (request-info config all (entry_of r))
    ∙ by (r.number == n) (info_with-infos config all rs n)
  where
    by : (b : Bool) → info_with (map (info config all) rs) n ≡ option_map (info config all) (request_at rs n) →
        cond b (Some (info config all r)) (info_with (map (info config all) rs) n) ≡ option_map (info config all) (cond b (Some r) (request_at rs n))
    by true h = refl
    by false h = h

-- what was shown stands by the numbers
pub shown-numbers : (config : Configuration) (requests : List Request) (before : List Info) (ns : List ℕ) → before ≡ infos_of config requests →
    flat_map (λ n. listed (request_at requests n)) ns ≡ requests → before ≡ flat_map (λ n. listed (info_with before n)) ns
shown-numbers config requests before ns shows known =
    shows
    ∙ ap (map (info config requests)) (sym known)
    ∙ sym (listed-map (info config requests) (request_at requests) ns)
    ∙ sym (flat_map-alike (λ n. listed (info_with before n)) (λ n. listed (option_map (info config requests) (request_at requests n)))
    (λ n. ap (λ (is : List Info). listed (info_with is n)) shows ∙ ap (λ (o : Option Info). listed o) (info_with-infos config requests requests n)) ns)

-- what is shown stands by the numbers
pub now-numbers : (config : Configuration) (ended : List Ended) (ongoing : List Request) (ns : List ℕ) →
    flat_map (λ n. listed (left_at ended ongoing n)) ns ≡ ongoing → flat_map (λ n. listed (now_at config ended ongoing n)) ns ≡ infos_of config ongoing
now-numbers config ended ongoing ns left = listed-map (info config ongoing) (left_at ended ongoing) ns ∙ ap (map (info config ongoing)) left

-- a list is split at one of its places
split : {B : Type 0} (f : ℕ → List B) (ns : List ℕ) (k d : ℕ) → k < length ns → flat_map f ns ≡ flat_map f (take k ns) ++ flat_map f (get_or ns k d ∷ drop (k + 1) ns)
split {B = B} f ns k d within =
    ap (flat_map f) (sym (take-append-drop k ns) ∙ ap (λ (ms : List ℕ). take k ns ++ ms) (drop_more ns k d within))
    ∙ flat_map-append f (take k ns) (get_or ns k d ∷ drop (k + 1) ns)

more : {B : Type 0} (f : ℕ → List B) (ns : List ℕ) (k d : ℕ) → k < length ns → flat_map f (take (k + 1) ns) ≡ flat_map f (take k ns) ++ f (get_or ns k d)
more {B = B} f ns k d within =
    ap (flat_map f) (take_more ns k d within)
    ∙ flat_map-append f (take k ns) (get_or ns k d ∷ [])
    ∙ ap (λ (ys : List B). flat_map f (take k ns) ++ ys) (append-nil (f (get_or ns k d)))

above-suc : (ns : List ℕ) (k d : ℕ) → is_rising ns ≡ true → k < length ns → list_all (nat_lt (get_or ns k d)) (drop (suc k) ns) ≡ true
above-suc [] k d h within = absurd (omega arith)
above-suc (n ∷ ns) zero d h within = and_left _ _ h
above-suc (n ∷ ns) (suc k) d h within = above-suc ns k d (and_right _ _ h) (omega arith)

-- the numbers behind a place are above the one at it
pub above : (ns : List ℕ) (k d : ℕ) → is_rising ns ≡ true → k < length ns → list_all (nat_lt (get_or ns k d)) (drop (k + 1) ns) ≡ true
above ns k d h within = rw (add-one k) (above-suc ns k d h within)

found-passes : {A : Type 0} (p : A → Bool) (xs : List A) (x : A) → find p xs ≡ Some x → p x ≡ true
found-passes p [] x h = cc
found-passes {A = A} p (y ∷ xs) x h = by (p y) refl h (found-passes p xs x)
  where
    by : (b : Bool) → p y ≡ b → cond b (Some y) (find p xs) ≡ Some x → (find p xs ≡ Some x → p x ≡ true) → p x ≡ true
    by true e h rest = let same : y ≡ x = cc in ap p (sym same) ∙ e
    by false e h rest = rest h

-- what is left of a number was found among the ongoing requests
pub left-found : (ended : List Ended) (ongoing : List Request) (n : ℕ) (r : Request) → left_at ended ongoing n ≡ Some r → request_at ongoing n ≡ Some r
left-found ended ongoing n r h = by (find (λ d. d.request.number == n) ended) h
  where
    by : (o : Option Ended) → option_map_or (λ d. None) o (request_at ongoing n) ≡ Some r → request_at ongoing n ≡ Some r
    by None h = h
    by (Some d) h = cc

pub left-keyed : (ended : List Ended) (ongoing : List Request) → IsKeyed (λ (r : Request). r.number) (left_at ended ongoing)
left-keyed ended ongoing = λ n r h. eqb-true r.number n (found-passes (λ r. r.number == n) ongoing r (left-found ended ongoing n r h))

info-keyed : (before : List Info) → IsKeyed (λ (i : Info). i.request) (info_with before)
info-keyed before = λ n i h. eqb-true i.request n (found-passes (λ i. i.request == n) before i h)

-- where the walk stands: the infos of the numbers behind it, then those of the numbers before it
pub record IsAt (config : Configuration) (ended : List Ended) (ongoing : List Request) (before : List Info) (ns : List ℕ) (k at : ℕ) (shown : List Info) : Type 0 where
  pub infos : shown ≡ flat_map (λ n. listed (now_at config ended ongoing n)) (take k ns) ++ flat_map (λ n. listed (info_with before n)) (drop k ns)
  pub place : at ≡ length (flat_map (λ n. listed (left_at ended ongoing n)) (take k ns))

-- as many are behind it as ongoing requests are
behind-place : (config : Configuration) (ended : List Ended) (ongoing : List Request) (ms : List ℕ) →
    length (flat_map (λ n. listed (now_at config ended ongoing n)) ms) ≡ length (flat_map (λ n. listed (left_at ended ongoing n)) ms)
behind-place config ended ongoing ms =
    ap (λ (is : List Info). length is) (listed-map (info config ongoing) (left_at ended ongoing) ms)
    ∙ length-map (flat_map (λ n. listed (left_at ended ongoing n)) ms) (info config ongoing)

-- the walk begins
pub begun-at : (config was : Configuration) (ended : List Ended) (ongoing requests : List Request) (before : List Info) (ns : List ℕ) → before ≡ infos_of was requests →
    flat_map (λ n. listed (request_at requests n)) ns ≡ requests → IsAt config ended ongoing before ns 0 0 before
begun-at config was ended ongoing requests before ns shows known = record { infos = shown-numbers was requests before ns shows known; place = refl }

-- the place is within the infos
pub place-within : (config : Configuration) (ended : List Ended) (ongoing : List Request) (before : List Info) (ns : List ℕ) (k place : ℕ) (infos : List Info) →
    IsAt config ended ongoing before ns k place infos → place ≤ length infos
place-within config ended ongoing before ns k place infos at =
    let done : List Info = flat_map (λ n. listed (now_at config ended ongoing n)) (take k ns) in
    let rest : List Info = flat_map (λ n. listed (info_with before n)) (drop k ns) in
    omega (arith, at.place, behind-place config ended ongoing (take k ns), ap (λ (is : List Info). length is) at.infos, length-append done rest)

-- the request of the number stands at the place
pub request-there : (ended : List Ended) (ongoing : List Request) (ns : List ℕ) (k d place : ℕ) → is_rising ns ≡ true → k < length ns →
    flat_map (λ n. listed (left_at ended ongoing n)) ns ≡ ongoing → place ≡ length (flat_map (λ n. listed (left_at ended ongoing n)) (take k ns)) →
    request_here ongoing place (get_or ns k d) ≡ left_at ended ongoing (get_or ns k d)
request-there ended ongoing ns k d place rising within left at =
    ap (λ (p : ℕ). request_here ongoing p (get_or ns k d)) at
    ∙ here-number (λ (r : Request). r.number) (left_at ended ongoing) (flat_map (λ n. listed (left_at ended ongoing n)) (take k ns)) ongoing (get_or ns k d) (drop (k + 1) ns)
    (left-keyed ended ongoing) (above ns k d rising within) (sym left ∙ split (λ n. listed (left_at ended ongoing n)) ns k d within)

-- so does the info of the number
pub info-there : (config : Configuration) (ended : List Ended) (ongoing : List Request) (before : List Info) (ns : List ℕ) (k d place : ℕ) (infos : List Info) →
    is_rising ns ≡ true → k < length ns → IsAt config ended ongoing before ns k place infos → info_here infos place (get_or ns k d) ≡ info_with before (get_or ns k d)
info-there config ended ongoing before ns k d place infos rising within at =
    let done : List Info = flat_map (λ n. listed (now_at config ended ongoing n)) (take k ns) in
    ap (λ (p : ℕ). info_here infos p (get_or ns k d)) (at.place ∙ sym (behind-place config ended ongoing (take k ns)))
    ∙ here-number (λ (i : Info). i.request) (info_with before) done infos (get_or ns k d) (drop (k + 1) ns) (info-keyed before) (above ns k d rising within)
    (at.infos ∙ ap (λ (ms : List ℕ). done ++ flat_map (λ n. listed (info_with before n)) ms) (drop_more ns k d within))

-- an info that no mark concerns is the new one
pub unmarked-there : (config : Configuration) (course : Course) (ongoing : List Request) (before : List Info) (n : ℕ) (r : Request) → IsCourse config ongoing before course →
    left_at course.ended.items ongoing n ≡ Some r → is_marked course.marks.items r ≡ false → info_with before n ≡ Some (info config ongoing r)
unmarked-there config course ongoing before n r known left free = known.unmarked n r (left-found course.ended.items ongoing n r left) free

-- one number further
pub next-at : (config : Configuration) (ended : List Ended) (ongoing : List Request) (before : List Info) (ns : List ℕ) (k d place place' : ℕ) (infos infos' : List Info) (old : Option Info) →
    k < length ns → IsAt config ended ongoing before ns k place infos → old ≡ info_with before (get_or ns k d) →
    infos' ≡ take place infos ++ listed (now_at config ended ongoing (get_or ns k d)) ++ drop (place + length (listed old)) infos →
    place' ≡ place + length (listed (left_at ended ongoing (get_or ns k d))) → IsAt config ended ongoing before ns (k + 1) place' infos'
next-at config ended ongoing before ns k d place place' infos infos' old within at there renewed behind =
    let n : ℕ = get_or ns k d in
    let done : List Info = flat_map (λ n. listed (now_at config ended ongoing n)) (take k ns) in
    let left : List Request = flat_map (λ n. listed (left_at ended ongoing n)) (take k ns) in
    let rest : List Info = flat_map (λ n. listed (info_with before n)) (drop (k + 1) ns) in
    let all : infos ≡ done ++ (listed old ++ rest) =
    at.infos
    ∙ ap (λ (ms : List ℕ). done ++ flat_map (λ n. listed (info_with before n)) ms) (drop_more ns k d within)
    ∙ ap (λ (o : Option Info). done ++ (listed o ++ rest)) (sym there) in
    let put : infos' ≡ take (length done) infos ++ listed (now_at config ended ongoing n) ++ drop (length done + length (listed old)) infos =
    renewed
    ∙ ap (λ (p : ℕ). take p infos ++ listed (now_at config ended ongoing n) ++ drop (p + length (listed old)) infos) (at.place ∙ sym (behind-place config ended ongoing (take k ns))) in
    record {
      infos =
          renewed-number done infos infos' rest old (now_at config ended ongoing n) all put
          ∙ ap (λ (is : List Info). is ++ rest) (sym (more (λ n. listed (now_at config ended ongoing n)) ns k d within));
      place =
          behind
          ∙ ap (λ (p : ℕ). p + length (listed (left_at ended ongoing n))) at.place
          ∙ sym (length-append left (listed (left_at ended ongoing n)))
          ∙ ap (λ (rs : List Request). length rs) (sym (more (λ n. listed (left_at ended ongoing n)) ns k d within));
    }

-- the walk has come to its end
pub ended-at : (config : Configuration) (ended : List Ended) (ongoing : List Request) (before : List Info) (ns : List ℕ) (k place : ℕ) (infos : List Info) → length ns ≤ k →
    flat_map (λ n. listed (left_at ended ongoing n)) ns ≡ ongoing → IsAt config ended ongoing before ns k place infos → infos ≡ infos_of config ongoing
ended-at config ended ongoing before ns k place infos all left at =
    at.infos
    ∙ ap (λ (ms : List ℕ). flat_map (λ n. listed (now_at config ended ongoing n)) (take k ns) ++ flat_map (λ n. listed (info_with before n)) ms) (drop_all k ns all)
    ∙ append-nil (flat_map (λ n. listed (now_at config ended ongoing n)) (take k ns))
    ∙ ap (flat_map (λ n. listed (now_at config ended ongoing n))) (take_all k ns all)
    ∙ now-numbers config ended ongoing ns left

-- the status of a number, by its old info
pub update-there : (config : Configuration) (ongoing : List Request) (ended : List Ended) (before : List Info) (n : ℕ) →
    update_from (info_with before n) (shown_at config ongoing ended n) ≡ update_at config ongoing ended before n
update-there config ongoing ended before n = by (entry_at ended ongoing n) refl
  where
    numbered : (e : Entry) → entry_at ended ongoing n ≡ Some e → e.request.number ≡ n
    numbered e h = by_ended (find (λ d. d.request.number == n) ended) refl h
      where
        ongoing_one : (o : Option Request) → request_at ongoing n ≡ o → option_map entry_of o ≡ Some e → e.request.number ≡ n
        ongoing_one None f h = cc
        ongoing_one (Some r) f h =
            let same : entry_of r ≡ e = cc in
            ap (λ (x : Entry). x.request.number) (sym same) ∙ eqb-true r.number n (found-passes (λ r. r.number == n) ongoing r f)

        by_ended : (o : Option Ended) → find (λ d. d.request.number == n) ended ≡ o → option_map_or (λ d. Some (entry_of_ended d)) o (option_map entry_of (request_at ongoing n)) ≡ Some e →
            e.request.number ≡ n
        by_ended None f h = ongoing_one (request_at ongoing n) refl h
        by_ended (Some d) f h =
            let same : entry_of_ended d ≡ e = cc in
            ap (λ (x : Entry). x.request.number) (sym same) ∙ found-number ended n d f

    by : (o : Option Entry) → entry_at ended ongoing n ≡ o →
        update_from (info_with before n) (option_map (shown_of config ongoing) o) ≡ option_map_or (update_if before) (option_map (shown_of config ongoing) o) []
    by None h = refl
    by (Some e) h =
        ap (λ (k : ℕ). cond (differs (info_with before k) (info_of config ongoing e)) (update_of (shown_of config ongoing e) ∷ []) [])
        (sym (numbered e h) ∙ sym (request-info config ongoing e))

-- the statuses of one number more
pub updates-more : (config : Configuration) (ongoing : List Request) (ended : List Ended) (before : List Info) (ns : List ℕ) (k d : ℕ) (us us' : List Update) (old : Option Info) →
    k < length ns → us ≡ updates config ongoing ended before (take k ns) → old ≡ info_with before (get_or ns k d) →
    us' ≡ us ++ update_from old (shown_at config ongoing ended (get_or ns k d)) → us' ≡ updates config ongoing ended before (take (k + 1) ns)
updates-more config ongoing ended before ns k d us us' old within so_far there put =
    put
    ∙ ap (λ (o : Option Info). us ++ update_from o (shown_at config ongoing ended (get_or ns k d))) there
    ∙ ap (λ (vs : List Update). us ++ vs) (update-there config ongoing ended before (get_or ns k d))
    ∙ ap (λ (vs : List Update). vs ++ update_at config ongoing ended before (get_or ns k d)) so_far
    ∙ sym (more (update_at config ongoing ended before) ns k d within)

-- the floors of one number more
pub floors-more : (config : Configuration) (ongoing : List Request) (ended : List Ended) (before : List Info) (ns : List ℕ) (k d : ℕ) (fs fs' : List ℕ) (old : Option Info) →
    k < length ns → fs ≡ moved config ongoing ended before (take k ns) → old ≡ info_with before (get_or ns k d) →
    fs' ≡ fs ++ floors_moved old (now_at config ended ongoing (get_or ns k d)) → fs' ≡ moved config ongoing ended before (take (k + 1) ns)
floors-more config ongoing ended before ns k d fs fs' old within so_far there put =
    put
    ∙ ap (λ (o : Option Info). fs ++ floors_moved o (now_at config ended ongoing (get_or ns k d))) there
    ∙ ap (λ (gs : List ℕ). gs ++ floors_moved (info_with before (get_or ns k d)) (now_at config ended ongoing (get_or ns k d))) so_far
    ∙ sym (more (λ n. floors_moved (info_with before n) (now_at config ended ongoing n)) ns k d within)

now-keyed : (config : Configuration) (ended : List Ended) (ongoing : List Request) → IsKeyed (λ (i : Info). i.request) (now_at config ended ongoing)
now-keyed config ended ongoing = λ n i h. by n i (left_at ended ongoing n) refl h
  where
    by : (n : ℕ) (i : Info) (o : Option Request) → left_at ended ongoing n ≡ o → option_map (info config ongoing) o ≡ Some i → i.request ≡ n
    by n i None e h = cc
    by n i (Some r) e h =
        let same : info config ongoing r ≡ i = cc in
        ap (λ (x : Info). x.request) (sym same) ∙ request-info config ongoing (entry_of r) ∙ left-keyed ended ongoing n r e

-- the floors that the walk has noted are those that changed
pub floors-changed : (config : Configuration) (course : Course) (ongoing : List Request) (before : List Info) (k : ℕ) (changed : List ℕ) → IsCourse config ongoing before course →
    length course.numbers.items ≤ k → changed ≡ moved config ongoing course.ended.items before (take k course.numbers.items) → AreChanged before (infos_of config ongoing) changed
floors-changed config course ongoing before k changed known all noted = λ floor.
    let ns : List ℕ = course.numbers.items in
    let ended : List Ended = course.ended.items in
    let old : List Info = flat_map (λ n. listed (info_with before n)) ns in
    let now : List Info = flat_map (λ n. listed (now_at config ended ongoing n)) ns in
    ap (λ (fs : List ℕ). list_any (λ f. f == floor) fs) (noted ∙ ap (moved config ongoing ended before) (take_all k ns all))
    ∙ moved-all floor (info_with before) (now_at config ended ongoing) ns (info-keyed before) (now-keyed config ended ongoing) known.rising
    ∙ ap (λ (is : List Info). not (same_infos (infos_on floor is) (infos_on floor now))) (sym (shown-numbers known.was known.requests before ns known.before known.old))
    ∙ ap (λ (is : List Info). not (same_infos (infos_on floor before) (infos_on floor is))) (now-numbers config ended ongoing ns known.left)
