use Rattle.std.proofs.Common.{◌⊎◌, ℕ, subst}
use Rattle.floor_desk.specs.Attending.{Attends, beside}
use Rattle.floor_service.specs.Calls.{ServesAfter}
use Rattle.floor_service.specs.declared.service.Service.{Service}
use Rattle.floor_service.proofs.service.Service.next.Goals as goal

pub returns-in-Some-next_of_server-clause-served : goal.returns-in-Some-next_of_server-clause-served
returns-in-Some-next_of_server-clause-served c =
    subst (λ (s : Service). (Attends beside s.desk.callers c.next_of_server.new.self.desk.callers) ⊎ ((x : ℕ) × ServesAfter x s.desk.is_draining s.desk.callers c.next_of_server.new.self.desk.callers))
    (c.see_to_stop.ensures.none c.if-see_to_stop.false) c.next_of_server.ensures.served

pub returns-clause-served : goal.returns-clause-served
returns-clause-served c =
    subst (λ (s : Service). (Attends beside s.desk.callers c.next_of_server.new.self.desk.callers) ⊎ ((x : ℕ) × ServesAfter x s.desk.is_draining s.desk.callers c.next_of_server.new.self.desk.callers))
    (c.see_to_stop.ensures.none c.if-see_to_stop.false) c.next_of_server.ensures.served
