-- What two runs that give a conference the same events have queued to its connections.
use Rattle.std.proofs.Common.{◌≡◌, ℕ, ◌+◌, Bool, true, false, cond, List, [], ◌∷◌, map, refl, sym, ◌∙◌, ap, Some, None}
use Rattle.std.specs.Prelude.{Option, ◌==◌}
use Rattle.std.specs.Option.{option_map, option_map_or}
use Rattle.std.proofs.lemmas.Bool.{eqb-true}
use Rattle.std.proofs.lemmas.Option.{none-some}
use Rattle.floor_config.specs.Configuration.{Configuration}
use Rattle.floor_machine.specs.Journal.{Q}
use Rattle.floor_hub.specs.declared.step.Step.{Step}
use Rattle.floor_hub.specs.World.{Part, Place, World, nothing}
use Rattle.floor_hub.specs.Kept.{IsKept, KeptIn, arrivals_in, first_numbers, numbers_of}
use Rattle.floor_hub.specs.Runs.{called_at, called_for, configuration, events, events_in, queued_in, queues, queues_from, run}
use Rattle.floor_hub.specs.Laws.{Headline}
use Rattle.floor_hub.proofs.Keeping.{nothing_kept, run_kept}

-- the entries of a conference are those of its places
entries : (c : ℕ) (parts : ℕ → Option Part) (k : ℕ) (ps : List Place) →
    queued_in c (queues_from parts k ps) ≡ map (λ n. (n, called_at (parts c) n)) (numbers_of c ps)
entries c parts k [] = refl
entries c parts k (q ∷ qs) = by (q.conference == c) refl (entries c parts (k + 1) qs)
  where
    by : (t : Bool) → (q.conference == c) ≡ t → queued_in c (queues_from parts (k + 1) qs) ≡ map (λ n. (n, called_at (parts c) n)) (numbers_of c qs) →
        cond t ((q.n, called_at (parts q.conference) q.n) ∷ queued_in c (queues_from parts (k + 1) qs)) (queued_in c (queues_from parts (k + 1) qs))
        ≡ map (λ n. (n, called_at (parts c) n)) (cond t (q.n ∷ numbers_of c qs) (numbers_of c qs))
    by true e h =
        ap (λ (d : ℕ). (q.n, called_at (parts d) q.n) ∷ queued_in c (queues_from parts (k + 1) qs)) (eqb-true q.conference c e)
        ∙ ap (λ (xs : List (ℕ × List ℕ)). (q.n, called_at (parts c) q.n) ∷ xs) h
    by false e h = h

called : (z : Option Part) (config : Configuration) → KeptIn z → option_map (λ p. p.config) z ≡ Some config →
    map (λ n. (n, called_at z n)) (first_numbers (arrivals_in z)) ≡ called_for config (events_in z)
called None config k e = absurd (none-some config e)
called (Some p) config k e =
    ap (λ (m : ℕ). map (λ n. (n, Q p.config p.events n)) (first_numbers m)) k.joins
    ∙ ap (λ (x : Configuration). called_for x p.events) (ap (λ (y : Option Configuration). option_map_or (λ v. v) y config) e)

-- what steps queue to the connections of a conference is what its floor machine alone calls for
pub queues_are : (c : ℕ) (config : Configuration) (steps : List Step) → configuration c steps ≡ Some config →
    queued_in c (queues steps) ≡ called_for config (events c steps)
queues_are c config steps e =
    let w : World = run nothing steps in
    let k : IsKept (run nothing steps) = run_kept nothing steps nothing_kept in
    entries c (run nothing steps).parts 1 (run nothing steps).places
    ∙ ap (map (λ n. (n, called_at ((run nothing steps).parts c) n))) (k.places c)
    ∙ called ((run nothing steps).parts c) config (k.parts c) e

pub headline : Headline
headline c config steps others t u first second alike =
    let mine : queued_in c t.queued ≡ called_for config (events c steps) = ap (queued_in c) first.queued ∙ queues_are c config steps alike.first in
    let theirs : queued_in c u.queued ≡ called_for config (events c others) = ap (queued_in c) second.queued ∙ queues_are c config others alike.second in
    (mine ∙ ap (called_for config) alike.events ∙ sym theirs, mine)
