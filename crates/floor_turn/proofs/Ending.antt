-- Whoever is to be shut down is shut in time.
use Rattle.std.proofs.Common.{List, [], ◌∷◌, refl, sym, ap, ◌∙◌}
use Rattle.std.specs.Prelude.{Option}
use Rattle.floor_sockets.specs.declared.life.Deed.{Deed}
use Rattle.floor_sockets.specs.Sockets.{Sockets}
use Rattle.floor_sockets.specs.Laws.{is_shut}
use Rattle.floor_sockets.specs.Laws as sockets
use Rattle.floor_connections.specs.Steps.{Steps, StepsBy, nobody}
use Rattle.floor_connections.proofs.Steps.{steps_both}
use Rattle.floor_turn.specs.declared.server.Server.{Server}
use Rattle.floor_turn.specs.Over.{Runs, WhoFailsIsShut, WhoIsEndedIsShut, was_shut}

run_steps : (gs : List (Option Deed)) (first last : Server) → Runs gs first last → StepsBy (λ slot. was_shut slot gs) first.connections.sockets last.connections.sockets
run_steps [] first last same = record { calls = []; lead = ap (λ (s : Server). s.connections.sockets) same; shut = λ slot. refl }
run_steps (g ∷ gs) first last run =
    steps_both (λ slot. is_shut slot g) (λ slot. was_shut slot gs) first.connections.sockets run.0.connections.sockets last.connections.sockets run.1 (run_steps gs run.0 last run.2)

-- all behind the call in which it was ended
behind : (gs : List (Option Deed)) (ended : Sockets) (first last : Server) → Steps ended first.connections.sockets → Runs gs first last → StepsBy (λ slot. was_shut slot gs) ended last.connections.sockets
behind gs ended first last rest run = steps_both nobody (λ slot. was_shut slot gs) ended first.connections.sockets last.connections.sockets rest (run_steps gs first last run)

pub ended_is_shut : sockets.WhoIsEndedIsShut → WhoIsEndedIsShut
ended_is_shut law slot l gs before ended first last at goes_on there does rest run late early =
    let all = behind gs ended first last rest run in
    sym (all.shut slot) ∙ law slot l all.calls before ended last.connections.sockets at goes_on there does all.lead late early

pub failed_is_shut : sockets.WhoFailsIsShut → WhoFailsIsShut
failed_is_shut law slot l gs before failed first last at there does rest run early =
    let all = behind gs failed first last rest run in
    sym (all.shut slot) ∙ law slot l all.calls before failed last.connections.sockets at there does all.lead early
