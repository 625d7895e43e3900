-- What is due to each member after an event (RFC 8855, sections 10.1.2 and 12.1).
use Rattle.std.specs.Prelude.{ℕ, ◌==◌, ◌&&◌, not, if◌then◌else◌, Bool, true, false, List, [], ◌++◌, map, filter, find}
use Rattle.std.specs.List.{list_any}
use Rattle.std.specs.Option.{option_map_or}
use Rattle.floor_config.specs.Configuration.{Configuration}
use Rattle.floor_config.specs.declared.floors.Floor.{Floor}
use Rattle.floor_queue.specs.declared.request.Request.{Request}
use Rattle.floor_queue.specs.Queue.{involves}
use Rattle.floor_message.specs.declared.information.Info.{Info}
use Rattle.floor_message.specs.declared.tell.Tell.{Tell}
use Rattle.floor_message.specs.declared.tell.Tell.TheVariants.{FloorRequestStatus}
use Rattle.floor_machine.specs.declared.member.Member.{Member}
use Rattle.floor_machine.specs.Conference.{Conference, member_with}
use Rattle.floor_machine.specs.declared.event.Event.{Event}
use Rattle.floor_machine.specs.declared.event.Event.TheVariants.{Message, Close}
use Rattle.floor_machine.specs.Shown.{Entry, ongoing_of, info_of}
use Rattle.floor_machine.specs.Same.{same_info, same_infos}
use Rattle.floor_machine.specs.Change.{shown, settled}
use Rattle.floor_machine.specs.Outgoing.{Outgoing, notice}
use Rattle.floor_machine.specs.Reply.{infos, infos_on, floor_status_tell, reply}

-- a request that is shown otherwise than before: it was not there, or another info of it was
abbrev pub is_changed : List Info → Info → Bool
is_changed before now = option_map_or (λ i. not (same_info i now)) (find (λ i. i.request == now.request) before) true

-- a request that an event changed, with what is shown of it now
pub record Changed : Type 0 where
  pub request : Request
  pub info : Info

-- an entry, with what is shown of it
abbrev pub changed_of : Configuration → List Entry → Entry → Changed
changed_of config entries e = record { request = e.request; info = info_of config (ongoing_of entries) e }

-- the new, the ended and the otherwise changed requests, ascending, each shown by the configuration of its conference
unfoldable pub changed_requests : Conference → Event → List Changed
changed_requests s e =
    filter (λ c. is_changed (infos s) c.info) (map (changed_of (settled s e).config (shown s e)) (shown s e))

-- the floors whose ongoing requests are shown otherwise than before, in the order of the configuration of then
unfoldable pub changed_floors : Conference → Event → List Floor
changed_floors s e =
    filter (λ f. not (same_infos (infos_on f.id (infos s)) (infos_on f.id (infos (settled s e))))) (settled s e).config.floors

-- n sent the event
abbrev pub is_sender : Event → ℕ → Bool
is_sender (Message sender bytes) n = sender == n
is_sender _ n = false

-- the message is the status of this request
abbrev pub is_status_of : ℕ → Tell → Bool
is_status_of request (FloorRequestStatus i) = i.request == request
is_status_of request _ = false

-- what n is answered: the reply, if n sent the event
abbrev pub reply_to : Conference → Event → ℕ → List Outgoing
reply_to s e n = if is_sender e n then reply s e else []

-- a changed request is told to its requester and its beneficiary, unless the reply to that member is its status already
abbrev pub is_told : List Outgoing → ℕ → Changed → Bool
is_told replied user c =
    involves c.request user && not (list_any (λ message. is_status_of c.request.number message.tell) replied)

-- the statuses of the changed requests that a member is told
abbrev pub request_notices : Conference → Event → Member → List Outgoing
request_notices s e m =
    map (λ c. notice s.config.conference m.user (FloorRequestStatus c.info))
    (filter (is_told (reply_to s e m.n) m.user) (changed_requests s e))

-- the changed floors that a member watches
abbrev pub floor_notices : Conference → Event → Member → List Outgoing
floor_notices s e m =
    map (λ f. notice s.config.conference m.user (floor_status_tell (settled s e) f.id))
    (filter (λ f. list_any (λ floor. floor == f.id) m.watched) (changed_floors s e))

-- what is due to a live member: the reply, if it sent the event, then the changed requests of its user, then the changed floors
-- that it watches
abbrev pub due_to : Conference → Event → Member → List Outgoing
due_to s e m = reply_to s e m.n ++ request_notices s e m ++ floor_notices s e m

-- what is due to n after an event: nothing where n isn't live then, and nothing to anybody after Close
unfoldable pub due : Conference → Event → ℕ → List Outgoing
due s Close n = []
due s e n = option_map_or (due_to s e) (member_with (settled s e).members n) []
