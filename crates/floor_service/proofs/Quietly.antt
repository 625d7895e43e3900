-- Nothing was asked of the hub, or something was said.
use Rattle.std.proofs.Common.{◌≡◌, ◌∙◌, ℕ, List, Some, ap, subst, sym}
use Rattle.floor_hub.specs.declared.step.Step.{Step}
use Rattle.floor_hub.specs.declared.step.Step.TheVariants.{Say}
use Rattle.floor_loop.specs.Done.{AtMost}
use Rattle.floor_loop.specs.Loop.{Loop}
use Rattle.floor_meetings.specs.Calls.{Quiet}
use Rattle.floor_message.specs.Written.{ask_bytes}
use Rattle.floor_message.specs.declared.ask.Ask.{Ask}
use Rattle.floor_message.specs.declared.ask.Ask.TheVariants.{FloorRelease}
use Rattle.floor_rpc.specs.declared.call.Creation.{Creation}
use Rattle.floor_rpc.specs.declared.call.Release.{Release}
use Rattle.floor_service.specs.Said.{by_of, creation_step, release_step}
use Rattle.floor_shown.specs.Asking.{creation_ask, head_of}
use Rattle.floor_turn.proofs.Handing as handing

pub quiet_none : (s : Step) (l : Loop) → Quiet (AtMost 1 s) l l
quiet_none = handing.quiet_none

-- these bytes are those
pub said_as : (conference by : ℕ) (bs cs : List ℕ) (old new : Loop) → bs ≡ cs → Quiet (AtMost 1 (Say conference by bs)) old new → Quiet (AtMost 1 (Say conference by cs)) old new
said_as conference by bs cs old new same q = subst (λ (xs : List ℕ). Quiet (AtMost 1 (Say conference by xs)) old new) same q

-- a FloorRequest was said for who asks
pub creation_said : (c : Creation) (by : ℕ) (ask : Ask) (old new : Loop) → by ≡ by_of c → ask ≡ creation_ask c by
    → Quiet (AtMost 1 (Say c.conference by (ask_bytes (head_of c.conference by) ask))) old new → Quiet (AtMost 1 (creation_step c)) old new
creation_said c by ask old new who what q =
    subst (λ (u : ℕ). Quiet (AtMost 1 (Say c.conference u (ask_bytes (head_of c.conference u) (creation_ask c u)))) old new) who
    (subst (λ (a : Ask). Quiet (AtMost 1 (Say c.conference by (ask_bytes (head_of c.conference by) a))) old new) what q)

-- a FloorRelease was said for who gives it back
pub release_said : (r : Release) (by named : ℕ) (old new : Loop) → by ≡ named
    → Quiet (AtMost 1 (Say r.conference by (ask_bytes (head_of r.conference by) (FloorRelease r.request)))) old new → Quiet (AtMost 1 (release_step named r)) old new
release_said r by named old new who q = subst (λ (u : ℕ). Quiet (AtMost 1 (release_step u r)) old new) who q
