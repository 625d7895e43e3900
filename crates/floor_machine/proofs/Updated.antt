-- The statuses of the changed requests tell of them as they are shown.
use Rattle.std.proofs.Common.{◌≡◌, ℕ, Bool, true, false, cond, List, [], ◌∷◌, ◌++◌, Option, Some, None, refl, sym, ap, ◌∙◌, arith}
use Rattle.std.specs.Prelude.{◌==◌, find, option_map}
use Rattle.std.specs.Option.{option_map_or}
use Rattle.std.proofs.lemmas.Bool.Decides.{nat_tests}
use Rattle.floor_config.specs.Configuration.{Configuration}
use Rattle.floor_queue.specs.declared.request.Request.{Request}
use Rattle.floor_queue.specs.Queue.{request_at}
use Rattle.floor_message.specs.declared.information.Info.{Info}
use Rattle.floor_message.specs.declared.tell.Tell.TheVariants.{FloorRequestStatus}
use Rattle.floor_machine.specs.declared.course.Ended.{Ended}
use Rattle.floor_machine.specs.declared.information.shown.Shown.{Shown}
use Rattle.floor_machine.specs.declared.tell.changed.Update.{Update}
use Rattle.floor_machine.specs.Shown.{entry_of}
use Rattle.floor_machine.specs.Told.{is_changed}
use Rattle.floor_machine.specs.steps.Telling.{AreTold, entry_of_ended, shown_at, shown_of, update_if, update_of, updates}

-- what is found by its number among those that ended has it
ended-number : (ds : List Ended) (k : ℕ) (d : Ended) → find (λ d. d.request.number == k) ds ≡ Some d → d.request.number ≡ k
ended-number [] k d h = absurd cc
ended-number (x ∷ ds) k d h = by (x.request.number == k) refl h (ended-number ds k d)
  where
    equal : (a b : ℕ) → (a == b) ≡ true → a ≡ b
    equal a b e = grind (arith, nat_tests)

    by : (b : Bool) → (x.request.number == k) ≡ b → cond b (Some x) (find (λ d. d.request.number == k) ds) ≡ Some d →
        (find (λ d. d.request.number == k) ds ≡ Some d → d.request.number ≡ k) → d.request.number ≡ k
    by true e f rest = let same : x ≡ d = cc in ap (λ (y : Ended). y.request.number) (sym same) ∙ equal x.request.number k e
    by false e f rest = rest f

-- and so has what is found among the ongoing ones
ongoing-number : (rs : List Request) (k : ℕ) (r : Request) → request_at rs k ≡ Some r → r.number ≡ k
ongoing-number [] k r h = absurd cc
ongoing-number (x ∷ rs) k r h = by (x.number == k) refl h (ongoing-number rs k r)
  where
    equal : (a b : ℕ) → (a == b) ≡ true → a ≡ b
    equal a b e = grind (arith, nat_tests)

    by : (b : Bool) → (x.number == k) ≡ b → cond b (Some x) (request_at rs k) ≡ Some r → (request_at rs k ≡ Some r → r.number ≡ k) → r.number ≡ k
    by true e f rest = let same : x ≡ r = cc in ap (λ (y : Request). y.number) (sym same) ∙ equal x.number k e
    by false e f rest = rest f

-- what is shown at a number is the request with the number
shown-number : (config : Configuration) (ongoing : List Request) (ended : List Ended) (k : ℕ) (s : Shown) → shown_at config ongoing ended k ≡ Some s → s.number ≡ k
shown-number config ongoing ended k s h = by (find (λ d. d.request.number == k) ended) refl h
  where
    left : (o : Option Request) → request_at ongoing k ≡ o → option_map (shown_of config ongoing) (option_map entry_of o) ≡ Some s → s.number ≡ k
    left None e f = absurd cc
    left (Some r) e f = let same : shown_of config ongoing (entry_of r) ≡ s = cc in ap (λ (x : Shown). x.number) (sym same) ∙ ongoing-number ongoing k r e

    by : (o : Option Ended) → find (λ d. d.request.number == k) ended ≡ o →
        option_map (shown_of config ongoing) (option_map_or (λ d. Some (entry_of_ended d)) o (option_map entry_of (request_at ongoing k))) ≡ Some s → s.number ≡ k
    by None e f = left (request_at ongoing k) refl f
    by (Some d) e f = let same : shown_of config ongoing (entry_of_ended d) ≡ s = cc in ap (λ (x : Shown). x.number) (sym same) ∙ ended-number ended k d e

-- the statuses that an event's numbers call for
pub updates-told : (config : Configuration) (ongoing : List Request) (ended : List Ended) (before : List Info) (numbers : List ℕ) →
    AreTold config ongoing ended (updates config ongoing ended before numbers)
updates-told config ongoing ended before [] number u h = absurd cc
updates-told config ongoing ended before (n ∷ numbers) number u h = at (shown_at config ongoing ended n) refl h (updates-told config ongoing ended before numbers number u)
  where
    -- what the other numbers call for
    others : List Update
    others = updates config ongoing ended before numbers

    equal : (a b : ℕ) → (a == b) ≡ true → a ≡ b
    equal a b e = grind (arith, nat_tests)

    Told : Type 0
    Told = option_map update_of (shown_at config ongoing ended number) ≡ Some u

    first : (s : Shown) → shown_at config ongoing ended n ≡ Some s → (b : Bool) → (s.number == number) ≡ b →
        cond b (Some (update_of s)) (find (λ u. u.number == number) others) ≡ Some u → (find (λ u. u.number == number) others ≡ Some u → Told) → Told
    first s is true e f rest =
        let same : n ≡ number = sym (shown-number config ongoing ended n s is) ∙ equal s.number number e in
        ap (λ (k : ℕ). option_map update_of (shown_at config ongoing ended k)) (sym same)
        ∙ ap (λ (o : Option Shown). option_map update_of o) is
        ∙ f
    first s is false e f rest = rest f

    told : (s : Shown) → shown_at config ongoing ended n ≡ Some s → (b : Bool) →
        find (λ u. u.number == number) (cond b (update_of s ∷ []) [] ++ others) ≡ Some u → (find (λ u. u.number == number) others ≡ Some u → Told) → Told
    told s is true f rest = first s is (s.number == number) refl f rest
    told s is false f rest = rest f

    at : (o : Option Shown) → shown_at config ongoing ended n ≡ o →
        find (λ u. u.number == number) (option_map_or (update_if before) o [] ++ others) ≡ Some u → (find (λ u. u.number == number) others ≡ Some u → Told) → Told
    at None is f rest = rest f
    at (Some s) is f rest = told s is (is_changed before s.info) f rest

-- where a changed request has a status, it is answered by it
pub status-told : (config : Configuration) (ongoing : List Request) (ended : List Ended) (number : ℕ) (u : Update) → option_map update_of (shown_at config ongoing ended number) ≡ Some u →
    u.tell ∷ [] ≡ option_map_or (λ shown. FloorRequestStatus shown.info ∷ []) (shown_at config ongoing ended number) []
status-told config ongoing ended number u h = by (shown_at config ongoing ended number) h
  where
    by : (o : Option Shown) → option_map update_of o ≡ Some u → u.tell ∷ [] ≡ option_map_or (λ shown. FloorRequestStatus shown.info ∷ []) o []
    by None h = absurd cc
    by (Some s) h = let same : update_of s ≡ u = cc in ap (λ (x : Update). x.tell ∷ []) (sym same)
