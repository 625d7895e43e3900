use Rattle.std.proofs.Common.{◌≡◌, subst}
use Rattle.floor_clients.specs.Clients.{Client, ended}
use Rattle.floor_desk.specs.declared.callers.Callers.{Callers}
use Rattle.floor_service.specs.Calls.{FirstAt}
use Rattle.floor_service.proofs.service.Service.ended.Goals as goal

pub returns-then-is_client-clause-heard : goal.returns-then-is_client-clause-heard
returns-then-is_client-clause-heard c = λ there asked.
    subst (λ (cs : Callers). FirstAt c.args.socket (λ (old new : Client). new ≡ ended old) cs c.client_ended.new.self.desk.callers) c.pass.ensures.callers (c.client_ended.ensures.heard asked)

pub returns-clause-ended : goal.returns-clause-ended
returns-clause-ended c = λ none asked door. (c.ended.new.self, c.ended.ensures.ended asked door, c.follow.ensures.settles)
