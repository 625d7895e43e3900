-- What the steps of reading a configuration's participants find.
use Rattle.std.specs.Prelude.{◌≡◌, ℕ, List, Option, Some, None, Result, Ok, Err, Vec, if◌then◌else◌}
use Rattle.floor_web.specs.declared.participants.Participant.{Participant}
use Rattle.floor_web.specs.declared.participants.ParticipantsFault.{ParticipantsFault}
use Rattle.floor_web.specs.Participants.{Found, bearers, behind_found, Fails, is_strong}

-- the users that were found stand behind those before, or this is the fault that was found
abbrev pub Adds : (old new : List Participant) → Result (Unit {0}) ParticipantsFault → Found → Type 0
Adds old new (Ok u) found = behind_found (bearers old) found ≡ Ok (bearers new)
Adds old new (Err fault) found = Fails fault found

-- the token, where it is a strong one
abbrev pub strong : List ℕ → Option (List ℕ)
strong token = if is_strong token then Some token else None
