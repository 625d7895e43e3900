-- Who may come from where: a user is an address (RFC 8855, sections 5.1, 6.2 and 9).
use Rattle.std.specs.Prelude.{ℕ, ◌==◌, ◌/◌, Bool, true, not, ◌&&◌, ◌||◌, List, length, Option, Some, None, nat_lt, position, if◌then◌else◌}
use Rattle.std.specs.List.{list_any}
use Rattle.floor_wire.specs.Header.{CommonHeader, header_of}
use Rattle.floor_datagram.specs.Datagrams.{primitive_of, is_acknowledging}
use Rattle.floor_sessions.specs.declared.admission.User.{User}
use Rattle.floor_sessions.specs.declared.admission.Source.{Source}
use Rattle.floor_sessions.specs.declared.admission.Admission.{Admission}
use Rattle.floor_sessions.specs.declared.admission.Admission.TheVariants.{Dropped, Refused, Admitted}

-- the user may come from this address, and from this port, where one is named
abbrev pub is_port_of : Option ℕ → ℕ → Bool
is_port_of None port = true
is_port_of (Some named) port = named == port

abbrev pub is_address_of : Source → User → Bool
is_address_of from u = u.address == from.address

abbrev pub is_source_of : Source → User → Bool
is_source_of from u = is_address_of from u && is_port_of u.port from.port

-- the message names the user's conference, and the user
abbrev pub is_conference_of : List ℕ → User → Bool
is_conference_of d u = u.conference == (header_of d).conference

abbrev pub is_user_of : List ℕ → User → Bool
is_user_of d u = is_conference_of d u && (u.user == (header_of d).user)

-- it isn't to be answered: a response, an acknowledgement or an Error
abbrev pub is_unanswered : List ℕ → Bool
is_unanswered d = (header_of d).transaction_responder || is_acknowledging (primitive_of d) || (primitive_of d == 13)

-- Error 1, where no user of the address has the conference, else 2: no such conference, or no such user
abbrev pub refusal_to : List User → Source → List ℕ → Admission
refusal_to users from d =
    if is_unanswered d then Dropped
    else if list_any (λ u. is_address_of from u && is_conference_of d u) users then Refused 2 else Refused 1

abbrev pub admitted_as : Option ℕ → List User → Source → List ℕ → Admission
admitted_as (Some place) users from d = Admitted place
admitted_as None users from d = refusal_to users from d

-- Too short, of version 0 or from an address that nobody has: dropped. Of another version: Error 12, unless it responds. Else
-- it is the user's whose Conference ID and User ID it has and who may come from there.
abbrev pub admission : List User → Source → List ℕ → Admission
admission users from d =
    if nat_lt (length d) 12 || ((header_of d).version == 0) then Dropped
    else if not (list_any (λ u. is_address_of from u) users) then Dropped
    else if not ((header_of d).version == 2) then (if (header_of d).transaction_responder then Dropped else Refused 12)
    else admitted_as (position (λ u. is_user_of d u && is_source_of from u) users) users from d
