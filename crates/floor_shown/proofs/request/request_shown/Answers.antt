use Rattle.std.proofs.Common.{◌≡◌, None, ap}
use Rattle.std.proofs.lemmas.Result.{IfOk-weaker}
use Rattle.floor_shown.specs.Requests.{shown_of, untimed}
use Rattle.floor_shown.proofs.request.request_shown.Goals as goal

pub returns : goal.returns
returns c = record { value = IfOk-weaker c.shown_of.result _ _ (λ shown e. ap untimed e) c.shown_of.ensures.value }
