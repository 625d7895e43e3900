use Rattle.std.proofs.Common.{◌-◌, ap, ◌∙◌, drop, List}
use Rattle.floor_machine.specs.declared.event.Event.{Event}
use Rattle.floor_hub.specs.Hub.{is_forgotten, room_at}
use Rattle.floor_loop.specs.Loop.{Loop}
use Rattle.floor_turn.proofs.Entering.{no_ok}
use Rattle.floor_turn.proofs.server.Server.events_from.Goals as goal

pub returns-in-Ok-clause-found : goal.returns-in-Ok-clause-found
returns-in-Ok-clause-found c = λ r at.
    c.behind_place.ensures.value ∙ ap (λ (es : List Event). drop (c.args.place - 1) es) (c.in-Ok.ensures.found r (ap (λ (l : Loop). room_at l.hub c.args.conference) c.hub.ensures.value ∙ at))

pub returns-in-Ok-clause-no_conference : goal.returns-in-Ok-clause-no_conference
returns-in-Ok-clause-no_conference c = λ none known. absurd (no_ok _ _ (c.in-Ok.ensures.no_conference
    (ap (λ (l : Loop). room_at l.hub c.args.conference) c.hub.ensures.value ∙ none) (ap (λ (l : Loop). is_forgotten l.hub c.args.conference) c.hub.ensures.value ∙ known)))

pub returns-in-Ok-clause-forgotten : goal.returns-in-Ok-clause-forgotten
returns-in-Ok-clause-forgotten c = λ none known. absurd (no_ok _ _ (c.in-Ok.ensures.forgotten
    (ap (λ (l : Loop). room_at l.hub c.args.conference) c.hub.ensures.value ∙ none) (ap (λ (l : Loop). is_forgotten l.hub c.args.conference) c.hub.ensures.value ∙ known)))

pub returns-in-Err-clause-found : goal.returns-in-Err-clause-found
returns-in-Err-clause-found c = λ r at. absurd (c.in-Err.ensures.found r (ap (λ (l : Loop). room_at l.hub c.args.conference) c.hub.ensures.value ∙ at))

pub returns-in-Err-clause-no_conference : goal.returns-in-Err-clause-no_conference
returns-in-Err-clause-no_conference c = λ none known. c.in-Err.ensures.no_conference
    (ap (λ (l : Loop). room_at l.hub c.args.conference) c.hub.ensures.value ∙ none) (ap (λ (l : Loop). is_forgotten l.hub c.args.conference) c.hub.ensures.value ∙ known)

pub returns-in-Err-clause-forgotten : goal.returns-in-Err-clause-forgotten
returns-in-Err-clause-forgotten c = λ none known. c.in-Err.ensures.forgotten
    (ap (λ (l : Loop). room_at l.hub c.args.conference) c.hub.ensures.value ∙ none) (ap (λ (l : Loop). is_forgotten l.hub c.args.conference) c.hub.ensures.value ∙ known)
