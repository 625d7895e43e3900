-- What is served of bytes that came of a member, and what follows where a message of it is longer than may be (RFC 8855, section 5.1).
use Rattle.std.specs.Prelude.{◌≡◌, ◌&&◌, ℕ, Bool, true, false, List, Result, Ok, Err}
use Rattle.floor_hub.specs.declared.refusal.HubRefusal.{HubRefusal}
use Rattle.floor_meetings.specs.declared.meetings.Meetings.{Meetings}
use Rattle.floor_meetings.specs.Runs.{Came, Does, Ended}

-- no turn is left over, and none was refused
abbrev pub is_served : Result Bool HubRefusal → Bool
is_served (Ok true) = false
is_served (Ok false) = true
is_served (Err refusal) = false

-- These bytes came of who is at the socket. Where its next message is longer than may be, and no turn is left over, its stream is over as if it had ended: what came of it is served to its end.
pub record Hears (socket : ℕ) (own : List ℕ) (is_too_long : Bool) (old new : Meetings) : Type 0 where
  pub answer : Result Bool HubRefusal
  pub between : Meetings
  pub heard : Does (Came socket own answer) old between
  pub over : (is_served answer && is_too_long) ≡ true → Does (Ended socket) between new
  pub goes_on : (is_served answer && is_too_long) ≡ false → new ≡ between
