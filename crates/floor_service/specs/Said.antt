-- What a request says for a user, as a step of the hub.
use Rattle.std.specs.Prelude.{ℕ, unwrap_or}
use Rattle.floor_message.specs.Written.{ask_bytes}
use Rattle.floor_message.specs.declared.ask.Ask.TheVariants.{FloorRelease}
use Rattle.floor_hub.specs.declared.step.Step.{Step}
use Rattle.floor_hub.specs.declared.step.Step.TheVariants.{Say}
use Rattle.floor_rpc.specs.declared.call.Creation.{Creation}
use Rattle.floor_rpc.specs.declared.call.Release.{Release}
use Rattle.floor_shown.specs.Asking.{creation_ask, head_of}

-- who asks: who is named, or the beneficiary itself
abbrev pub by_of : Creation → ℕ
by_of c = unwrap_or c.by c.beneficiary

-- its FloorRequest is said for who asks (RFC 8855, section 10.1)
abbrev pub creation_step : Creation → Step
creation_step c = Say c.conference (by_of c) (ask_bytes (head_of c.conference (by_of c)) (creation_ask c (by_of c)))

-- its FloorRelease is said for this user (section 10.2)
abbrev pub release_step : ℕ → Release → Step
release_step by r = Say r.conference by (ask_bytes (head_of r.conference by) (FloorRelease r.request))
