-- What a live line says of its conference, behind its place.
use Rattle.std.specs.Prelude.{ℕ, ◌==◌, ◌^◌, Bool, true, false, List, [], ◌∷◌, ◌++◌, length, codes, bytes_eq, Option, Some, None, Result, Ok, Err, if◌then◌else◌}
use Rattle.floor_words.specs.Words.{words}
use Rattle.floor_config.specs.declared.floors.Floor.{Floor as TheFloor}
use Rattle.floor_message.specs.declared.status.RequestStatus.{RequestStatus}
use Rattle.floor_message.specs.declared.status.RequestStatus.TheVariants.{Pending, Accepted, Granted, Denied, Cancelled, Released, Revoked}
use Rattle.floor_follow.specs.Reading.{and_then, cut, begins_with, expect, is_empty, end, numbered, optional, octets, optional_octets, parted}
use Rattle.floor_follow.specs.declared.fault.FollowFault.{FollowFault}
use Rattle.floor_follow.specs.declared.fault.FollowFault.TheVariants.{UnknownLine}
use Rattle.floor_follow.specs.declared.fact.Fact.{Fact}
use Rattle.floor_follow.specs.declared.fact.Fact.TheVariants.{User, Floor, Request, Reason, Member}
use Rattle.floor_follow.specs.declared.fact.Person.{Person}
use Rattle.floor_follow.specs.declared.change.Change.{Change}
use Rattle.floor_follow.specs.declared.change.Change.TheVariants.{About, Chair, Closed, Broken, Nothing}
use Rattle.floor_follow.specs.declared.change.Subject.TheVariants as Of
use Rattle.floor_follow.specs.declared.live.Head.{Head}

-- a line of one word
abbrev pub alone : List ℕ → Change → Result Change FollowFault
alone text change = and_then (end text) (λ _. Ok change)

-- `<n> user <u>`
abbrev pub number_and_user : List ℕ → Result (ℕ × ℕ) FollowFault
number_and_user text =
    and_then (numbered (2 ^ 32) text) (λ n.
    and_then (expect (codes "user") n.1) (λ rest.
    and_then (numbered (2 ^ 16) rest) (λ u.
    and_then (end u.1) (λ _. Ok (n.0, u.0)))))

-- a member is there
abbrev pub member : List ℕ → (is_away : Bool) → Result Change FollowFault
member text is_away = and_then (number_and_user text) (λ m. Ok (About (Of.Member m.0) (Member (record { n = m.0; user = m.1; is_away = is_away }) ∷ [])))

-- a member is there no more
abbrev pub left : List ℕ → Result Change FollowFault
left text = and_then (number_and_user text) (λ m. Ok (About (Of.Member m.0) []))

-- a member is told nothing more
abbrev pub cut_off : List ℕ → Result Change FollowFault
cut_off text = and_then (number_and_user text) (λ _. Ok Nothing)

-- `proxy`, or nothing; and what is left
abbrev pub proxy_mark : List ℕ → Result (Bool × List ℕ) FollowFault
proxy_mark text = if begins_with (codes "proxy") text then and_then (expect (codes "proxy") text) (λ rest. Ok (true, rest)) else Ok (false, text)

-- `port <p>`, or nothing; and what is left
abbrev pub port : List ℕ → Result (Option ℕ × List ℕ) FollowFault
port text =
    if begins_with (codes "port") text
    then and_then (expect (codes "port") text) (λ rest. and_then (numbered (2 ^ 16) rest) (λ p. Ok (Some p.0, p.1)))
    else Ok (None, text)

-- `name <hex>` to the end, or nothing
abbrev pub name : List ℕ → Result (Option (List ℕ)) FollowFault
name text =
    if is_empty text then Ok None
    else and_then (expect (codes "name") text) (λ rest. and_then (octets rest) (λ n. and_then (end n.1) (λ _. Ok (Some n.0))))

-- `<id> [proxy] [port <p>] [name <hex>]`
abbrev pub person : List ℕ → Result Person FollowFault
person text =
    and_then (numbered (2 ^ 16) text) (λ id.
    and_then (proxy_mark id.1) (λ proxy.
    and_then (port proxy.1) (λ p.
    and_then (name p.1) (λ n. Ok (record { id = id.0; proxy = proxy.0; port = p.0; name = n })))))

-- a user
abbrev pub user : List ℕ → Result Change FollowFault
user text = and_then (person text) (λ p. Ok (About (Of.User p.id) (User p ∷ [])))

-- `<id> room <r> chair <u or ->`, and what is left
abbrev pub floor_words : List ℕ → Result (TheFloor × List ℕ) FollowFault
floor_words text =
    and_then (numbered (2 ^ 16) text) (λ id.
    and_then (expect (codes "room") id.1) (λ at_room.
    and_then (numbered (2 ^ 16) at_room) (λ room.
    and_then (expect (codes "chair") room.1) (λ at_chair.
    and_then (optional (2 ^ 16) at_chair) (λ chair.
    Ok (record { id = id.0; room = room.0; chair = chair.0 }, chair.1))))))

-- a floor
abbrev pub floor : List ℕ → Result Change FollowFault
floor text = and_then (floor_words text) (λ f. and_then (end f.1) (λ _. Ok (About (Of.Floor f.0.id) (Floor f.0 ∷ []))))

-- `<floor> <u or ->`: the floor has this chair, or none
abbrev pub chair : List ℕ → Result Change FollowFault
chair text = and_then (numbered (2 ^ 16) text) (λ f. and_then (optional (2 ^ 16) f.1) (λ u. and_then (end u.1) (λ _. Ok (Chair f.0 u.0))))

-- the status of this name (RFC 8855, section 5.2.5)
abbrev pub status : List ℕ → Result RequestStatus FollowFault
status name =
    if bytes_eq name (codes "Pending") then Ok Pending
    else if bytes_eq name (codes "Accepted") then Ok Accepted
    else if bytes_eq name (codes "Granted") then Ok Granted
    else if bytes_eq name (codes "Denied") then Ok Denied
    else if bytes_eq name (codes "Cancelled") then Ok Cancelled
    else if bytes_eq name (codes "Released") then Ok Released
    else if bytes_eq name (codes "Revoked") then Ok Revoked
    else Err UnknownLine

-- `<Status>:<position>`
abbrev pub status_and_position : List ℕ → Result (RequestStatus × ℕ) FollowFault
status_and_position word = and_then (status (parted word).0) (λ s. and_then (numbered (2 ^ 16) (parted word).1) (λ p. Ok (s, p.0)))

-- `by <u>`, or nothing; and what is left
abbrev pub requester : List ℕ → Result (Option ℕ × List ℕ) FollowFault
requester text =
    if begins_with (codes "by") text
    then and_then (expect (codes "by") text) (λ rest. and_then (numbered (2 ^ 16) rest) (λ u. Ok (Some u.0, u.1)))
    else Ok (None, text)

-- `<r> user <u> [by <u>] <Status>:<position> floors`, and what is left
abbrev pub head : List ℕ → Result (Head × List ℕ) FollowFault
head text =
    and_then (numbered (2 ^ 16) text) (λ r.
    and_then (expect (codes "user") r.1) (λ at_user.
    and_then (numbered (2 ^ 16) at_user) (λ u.
    and_then (requester u.1) (λ by.
    and_then (cut by.1) (λ word.
    and_then (status_and_position word.0) (λ s.
    and_then (expect (codes "floors") word.1) (λ rest.
    Ok (record { request = r.0; user = u.0; requester = by.0; status = s.0; position = s.1 }, rest))))))))

-- the status of a floor of the request: that of the whole, where none is said
abbrev pub own_status : Head → List ℕ → Result RequestStatus FollowFault
own_status h name = if length name == 0 then Ok h.status else status name

-- `<f>[:<Status>]`: how the request stands at a floor
abbrev pub requested_floor : Head → List ℕ → Result Fact FollowFault
requested_floor h word =
    and_then (numbered (2 ^ 16) (parted word).0) (λ f.
    and_then (own_status h (parted word).1) (λ s.
    Ok (Request (record { request = h.request; floor = f.0; user = Some h.user; requester = h.requester; status = s; position = h.position }))))

-- a request with this status goes on (RFC 8855, section 10.1.2)
abbrev pub is_ongoing : RequestStatus → Bool
is_ongoing Pending = true
is_ongoing Accepted = true
is_ongoing Granted = true
is_ongoing Denied = false
is_ongoing Cancelled = false
is_ongoing Released = false
is_ongoing Revoked = false

-- facts, and what is said of the request, if anything is
abbrev pub said : ℕ → List Fact → Option (List ℕ) → List Fact
said r facts None = facts
said r facts (Some text) = facts ++ Reason (record { request = r; text = text }) ∷ []

-- `<hex or ->` to the end: of a request that has ended nothing holds any more
abbrev pub with_reason : Head → List Fact → List (List ℕ) → Result (List Fact) FollowFault
with_reason h facts [] = Err UnknownLine
with_reason h facts (w ∷ x ∷ ws) = Err UnknownLine
with_reason h facts (w ∷ []) = and_then (optional_octets w) (λ o. Ok (if is_ongoing h.status then said h.request facts o.0 else []))

-- `<f>[:<Status>] .. reason <hex or ->`, behind floors of which these facts were read
abbrev pub floors_of : Head → List Fact → List (List ℕ) → Result (List Fact) FollowFault
floors_of h facts [] = Err UnknownLine
floors_of h facts (w ∷ ws) =
    if bytes_eq w (codes "reason") then with_reason h facts ws
    else and_then (requested_floor h w) (λ f. floors_of h (facts ++ f ∷ []) ws)

-- a floor request
abbrev pub request : List ℕ → Result Change FollowFault
request text = and_then (head text) (λ h. and_then (floors_of h.0 [] (words h.1)) (λ facts. Ok (About (Of.Request h.0.request) facts)))

abbrev pub event_of : List ℕ → List ℕ → Result Change FollowFault
event_of kind rest =
    if bytes_eq kind (codes "joined") then member rest false
    else if bytes_eq kind (codes "left") then left rest
    else if bytes_eq kind (codes "user") then user rest
    else if bytes_eq kind (codes "floor") then floor rest
    else if bytes_eq kind (codes "chair") then chair rest
    else if bytes_eq kind (codes "closed") then alone rest Closed
    else if bytes_eq kind (codes "request") then request rest
    else if bytes_eq kind (codes "cut") then cut_off rest
    else if bytes_eq kind (codes ".") then alone rest Nothing
    else Err UnknownLine

-- what a line of an event changes
abbrev pub event : List ℕ → Result Change FollowFault
event text = and_then (cut text) (λ c. event_of c.0 c.1)

abbrev pub notice_of : List ℕ → List ℕ → Result Change FollowFault
notice_of kind rest =
    if bytes_eq kind (codes "away") then member rest true
    else if bytes_eq kind (codes "back") then left rest
    else if bytes_eq kind (codes "broken") then alone rest Broken
    else if bytes_eq kind (codes "unkept") then alone rest Nothing
    else Err UnknownLine

-- what a line changes that tells no event: whose user is back by another member is there no more
abbrev pub notice : List ℕ → Result Change FollowFault
notice text = and_then (cut text) (λ c. notice_of c.0 c.1)
