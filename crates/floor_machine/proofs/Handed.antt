-- What is handed out of an event is what is shown of the requests that it changed.
use Rattle.std.proofs.Common.{◌≡◌, ℕ, true, List, [], ◌∷◌, map, refl, ap, ◌∙◌}
use Rattle.floor_queue.specs.Order.{settle}
use Rattle.floor_queue.specs.Queue.{is_ascending}
use Rattle.floor_message.specs.declared.information.Info.{Info}
use Rattle.floor_machine.specs.declared.event.Event.{Event}
use Rattle.floor_machine.specs.declared.event.Event.TheVariants.{Join, Took, Close}
use Rattle.floor_machine.specs.declared.tell.changed.Update.{Update}
use Rattle.floor_machine.specs.Change.{change, shown}
use Rattle.floor_machine.specs.Conference.{Conference}
use Rattle.floor_machine.specs.Machine.{infos_changed}
use Rattle.floor_machine.specs.Told.{Changed, changed_requests}
use Rattle.floor_machine.specs.steps.Telling.{infos_told}
use Rattle.floor_machine.proofs.Quiet.{requests-join, requests-took}
use Rattle.floor_machine.proofs.Telling.{update_for}

infos_told-for : (cs : List Changed) → infos_told (map update_for cs) ≡ map (λ c. c.info) cs
infos_told-for [] = refl
infos_told-for (c ∷ cs) = ap (λ (is : List Info). c.info ∷ is) (infos_told-for cs)

-- the statuses of the changed requests show what is handed out
pub handed-told : (s : Conference) (e : Event) (us : List Update) → us ≡ map update_for (changed_requests s e) → infos_told us ≡ infos_changed s e
handed-told s e us is = ap infos_told is ∙ infos_told-for (changed_requests s e)

-- where no request is changed nothing is
pub none-handed : (s : Conference) (e : Event) → changed_requests s e ≡ [] → infos_changed s e ≡ []
none-handed s e none = ap (λ (cs : List Changed). map (λ c. c.info) cs) none

-- a member who joins shows no request otherwise
pub handed-join : (s : Conference) (user : ℕ) → settle s.config.floors s.ongoing ≡ s.ongoing → is_ascending s.ongoing ≡ true → infos_changed s (Join user) ≡ []
handed-join s user is_settled ascending = none-handed s (Join user) (requests-join s user is_settled ascending)

-- nor does one who acknowledges
pub handed-took : (s : Conference) (n k : ℕ) → settle s.config.floors s.ongoing ≡ s.ongoing → is_ascending s.ongoing ≡ true → infos_changed s (Took n k) ≡ []
handed-took s n k is_settled ascending = none-handed s (Took n k) (requests-took s n k is_settled ascending)

-- a close shows no request otherwise
pub handed-close : (s : Conference) → infos_changed s Close ≡ []
unfolding changed_requests shown change
handed-close s = refl
