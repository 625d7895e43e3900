-- What calls do to the clients: each goes on by calls of its own (floor_clients), one after another.
use Rattle.std.specs.Prelude.{◌≡◌, ◌||◌, ◌&&◌, ℕ, Bool, true, false, List, [], ◌∷◌, Option, Some, None, nat_eq}
use Rattle.floor_clients.specs.Runs.{Step, Runs, Came, Ended, Close, Line, TooLong, Answer, Tell, Pass, Watch, Unwatch, WatchAll, Took}
use Rattle.floor_desk.specs.Callers.{caller_at}
use Rattle.floor_desk.specs.declared.caller.Caller.{Caller}
use Rattle.floor_desk.specs.declared.callers.Callers.{Callers}

-- what is done to a client besides its own line: it is told, answered, or to be closed, and watches no conference that is forgotten
abbrev pub is_beside : Step → Bool
is_beside (Came bytes is_taken) = false
is_beside Ended = false
is_beside (Close why) = true
is_beside (Line draining line reply) = false
is_beside TooLong = false
is_beside (Answer outcome response) = true
is_beside (Tell t is) = true
is_beside (Pass conference place is) = true
is_beside (Watch conference place) = false
is_beside (Unwatch conference) = true
is_beside (WatchAll all) = false
is_beside (Took bytes) = false

-- what is done to a client whose request is carried out: that, and it watches
abbrev pub is_carried : Step → Bool
is_carried (Watch conference place) = true
is_carried (WatchAll all) = true
is_carried s = is_beside s

-- each of these may be
abbrev pub Each : (Step → Bool) → List Step → Type 0
Each may [] = Unit {0}
Each may (s ∷ ss) = (may s ≡ true) × Each may ss

-- Its client went on by calls that may be, and it is the same one still.
pub record GoesOn (may : Step → Bool) (old new : Caller) : Type 0 where
  pub steps : List Step
  pub run : Runs steps old.client new.client
  pub each : Each may steps
  pub number : new.number ≡ old.number

-- who is at a socket went on so; nobody came or left
abbrev pub GoesOnAt : (Step → Bool) → Option Caller → Option Caller → Type 0
GoesOnAt may None new = new ≡ None
GoesOnAt may (Some old) new = (c : Caller) × (new ≡ Some c) × GoesOn may old c

-- Whoever is at a socket went on by calls that may be there.
pub record Attends (may : ℕ → Step → Bool) (old new : Callers) : Type 0 where
  pub here : (slot : ℕ) → GoesOnAt (may slot) (caller_at old slot) (caller_at new slot)

-- of nobody more may be than beside its own line
abbrev pub beside : ℕ → Step → Bool
beside slot = is_beside

-- but of the client at a socket, whose request is carried out
abbrev pub carried : ℕ → ℕ → Step → Bool
carried socket slot s = is_beside s || (nat_eq socket slot && is_carried s)
