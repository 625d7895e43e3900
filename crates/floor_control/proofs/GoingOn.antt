-- What is watched of events and then of others is watched of both.
use Rattle.std.proofs.Common.{◌≡◌, ℕ, suc, ◌+◌, List, [], ◌∷◌, ◌++◌, length, refl, sym, ap, ◌∙◌, append_assoc, arith}
use Rattle.floor_config.specs.Configuration.{Configuration}
use Rattle.floor_machine.specs.Conference.{Conference, opening}
use Rattle.floor_machine.specs.declared.event.Event.{Event}
use Rattle.floor_machine.specs.Journal.{after, after_from}
use Rattle.floor_machine.specs.Next.{next}
use Rattle.floor_control.specs.Watch.{lines, texts, watched, watched_from}
use Rattle.floor_control.specs.Watcher.{watched_whole}

pub watched-both : (place : ℕ) (s : Conference) (es fs : List Event) →
    watched_from place s (es ++ fs) ≡ watched_from place s es ++ watched_from (place + length es) (after_from s es) fs
watched-both place s [] fs = ap (λ (p : ℕ). watched_from p s fs) (none place)
  where
    none : (p : ℕ) → p ≡ p + 0
    none p = omega arith
watched-both place s (e ∷ es) fs =
    ap (λ (text : List ℕ). watched place s e ++ text) (watched-both (place + 1) (next s e) es fs)
    ∙ sym (append_assoc (watched place s e) (watched_from (place + 1) (next s e) es) (watched_from (place + 1 + length es) (after_from (next s e) es) fs))
    ∙ ap (λ (p : ℕ). watched_from place s (e ∷ es) ++ watched_from p (after_from (next s e) es) fs) (one place (length es))
  where
    one : (p n : ℕ) → p + 1 + n ≡ p + suc n
    one p n = omega arith

pub watched-on : (config : Configuration) (es fs : List Event) →
    watched_whole config (es ++ fs) ≡ watched_whole config es ++ watched_from (length es + 1) (after config es) fs
watched-on config es fs =
    watched-both 1 (opening config) es fs ∙ ap (λ (p : ℕ). watched_whole config es ++ watched_from p (after config es) fs) (one (length es))
  where
    one : (n : ℕ) → 1 + n ≡ n + 1
    one n = omega arith

pub nothing-shown : (place : ℕ) (s : Conference) (e : Event) → texts s e ≡ [] → watched place s e ≡ []
nothing-shown place s e none = ap (lines s.config.conference place) none
