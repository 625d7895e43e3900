use Rattle.std.proofs.Common.{subst}
use Rattle.floor_clients.specs.Clients.{came}
use Rattle.floor_desk.specs.Clients.{OrCloses}
use Rattle.floor_desk.specs.declared.callers.Callers.{Callers}
use Rattle.floor_service.specs.Calls.{FirstAt}
use Rattle.floor_service.proofs.service.Service.came.Goals as goal

pub returns-then-is_client-clause-heard : goal.returns-then-is_client-clause-heard
returns-then-is_client-clause-heard c = λ there asked.
    subst (λ (cs : Callers). FirstAt c.args.socket (OrCloses (came c.args.bytes.now)) cs c.client_came.new.self.desk.callers) c.pass.ensures.callers (c.client_came.ensures.heard asked)

pub returns-clause-handed : goal.returns-clause-handed
returns-clause-handed c = λ none asked door. (c.came.new.self, c.came.ensures.heard asked door, c.follow.ensures.settles)

pub returns-clause-entered : goal.returns-clause-entered
returns-clause-entered c = λ peer n d u len asked at is none. (c.came.new.self, c.came.ensures.entered peer n d u len asked at is, c.follow.ensures.settles)
