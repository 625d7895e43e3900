-- The places of conferences, as connections come and go.
use Rattle.std.proofs.Common.{◌≡◌, ◌≢◌, ◌<◌, ◌≤◌, ◌+◌, ◌++◌, ◌∙◌, ℕ, Bool, true, false, cond, List, [], ◌∷◌, length, arith, ap, sym, refl, suc, subst}
use Rattle.std.specs.Prelude.{All, ◌==◌}
use Rattle.std.specs.List.{remove}
use Rattle.std.proofs.lemmas.Bool.{eqb-true}
use Rattle.std.proofs.lemmas.List.Elements.{All-append, All-drop, All-push, All-take}
use Rattle.std.proofs.lemmas.List.Sums.{sum_by-append, sum_by-remove}
use Rattle.floor_listen.specs.Connections.{IsBounded, IsNumbered, taken}
use Rattle.floor_listen.specs.declared.connections.TheConstants.{MAX_CONNECTIONS}
use Rattle.floor_listen.specs.declared.connections.Running.{Running}

-- a connection that none need be
abbrev nobody : Running
nobody = record { number = 0; conference = 0; port = 0 }

pub all_remove : {X : Type 0} (P : X → Type 0) (xs : List X) (i : ℕ) → All P xs → All P (remove xs i)
all_remove P xs i h = All-append P _ _ (All-take P i xs h) (All-drop P (suc i) xs h)

pub bounded_remove : (running : List Running) (place : ℕ) → place < length running → IsBounded running → IsBounded (remove running place)
bounded_remove running place h bounded conference =
    let e = sum_by-remove (λ c. cond (c.conference == conference) 1 0) running place nobody h in
    let b : taken conference running ≤ MAX_CONNECTIONS = bounded conference in
    omega arith

counted : (b : Bool) → cond b 1 0 ≤ 1
counted true = omega arith
counted false = omega arith

one_more : (conference : ℕ) (running : List Running) (c : Running) (b : Bool) → (c.conference == conference) ≡ b → taken conference running ≤ MAX_CONNECTIONS
    → taken c.conference running < MAX_CONNECTIONS → taken conference running + (0 + cond b 1 0) ≤ MAX_CONNECTIONS
one_more conference running c true e bounded room =
    let same : c.conference ≡ conference = eqb-true _ _ e in
    let t : taken c.conference running ≡ taken conference running = ap (λ x. taken x running) same in
    omega arith
one_more conference running c false e bounded room = omega arith

pub bounded_more : (running : List Running) (c : Running) → taken c.conference running < MAX_CONNECTIONS → IsBounded running → IsBounded (running ++ c ∷ [])
bounded_more running c room bounded conference =
    rw sum_by-append (one_more conference running c (c.conference == conference) refl (bounded conference) room)

pub numbered_more : (running : List Running) (begun : ℕ) (c : Running) → c.number ≡ begun → IsNumbered running begun → IsNumbered (running ++ c ∷ []) (begun + 1)
numbered_more running begun c e h =
    All-push (λ (r : Running). r.number < begun + 1) running c (λ k d lt. omega (arith, h k d lt)) (omega (arith, e))

pub fresh : (running : List Running) (begun number : ℕ) → number ≡ begun → IsNumbered running begun → All (λ c. c.number ≢ number) running
fresh running begun number e h k d lt same = absurd (omega (arith, same, e, h k d lt))

-- the same connections under another name
pub same_running : (xs ys : List Running) (begun : ℕ) → ys ≡ xs → IsNumbered xs begun → IsBounded xs → IsNumbered ys begun × IsBounded ys
same_running xs ys begun e numbered bounded =
    let P : List Running → Type 0 = λ l. IsNumbered l begun × IsBounded l in
    subst P (sym e) (numbered, bounded)

-- one is taken out
pub removed : (xs ys : List Running) (place begun : ℕ) → ys ≡ remove xs place → place < length xs → IsNumbered xs begun → IsBounded xs → IsNumbered ys begun × IsBounded ys
removed xs ys place begun e h numbered bounded =
    same_running (remove xs place) ys begun e (all_remove (λ c. c.number < begun) xs place numbered) (bounded_remove xs place h bounded)

-- one is put behind
pub added : (xs ys zs : List Running) (c : Running) (begun after : ℕ) → ys ≡ xs → zs ≡ ys ++ c ∷ [] → c.number ≡ begun → after ≡ begun + 1
    → taken c.conference xs < MAX_CONNECTIONS → IsNumbered xs begun → IsBounded xs → IsNumbered zs after × IsBounded zs
added xs ys zs c begun after e f n m room numbered bounded =
    let P : ℕ → Type 0 = λ k. IsNumbered zs k × IsBounded zs in
    subst P (sym m) (same_running (xs ++ c ∷ []) zs (begun + 1) (f ∙ ap (λ l. l ++ c ∷ []) e) (numbered_more xs begun c n numbered) (bounded_more xs c room bounded))
