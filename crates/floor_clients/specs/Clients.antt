-- A control client, and what its calls come to.
use Rattle.std.specs.Prelude.{ℕ, ◌+◌, ◌-◌, ◌==◌, ◌&&◌, ◌||◌, Bool, true, false, not, nat_le, nat_lt, nat_eq, is_some, List, [], ◌∷◌, ◌++◌, length, Option, Some, None, Result, Err, if◌then◌else◌}
use Rattle.floor_rpc.specs.Failures.{response_json}
use Rattle.floor_rpc.specs.Json.{line_of}
use Rattle.floor_rpc.specs.Notifications.{notification_json}
use Rattle.floor_rpc.specs.declared.answer.Answer.{Answer}
use Rattle.floor_rpc.specs.declared.error.ErrorName.{ErrorName}
use Rattle.floor_rpc.specs.declared.error.ErrorName.TheVariants as error
use Rattle.floor_rpc.specs.declared.failure.About.TheVariants.{All}
use Rattle.floor_rpc.specs.declared.failure.Failure.{Failure}
use Rattle.floor_rpc.specs.declared.id.Id.{Id}
use Rattle.floor_rpc.specs.declared.id.Id.TheVariants.{Null}
use Rattle.floor_rpc.specs.declared.response.Response.{Response}
use Rattle.floor_clients.specs.declared.mode.Mode.{Mode}
use Rattle.floor_clients.specs.declared.standing.Asked.{Asked}
use Rattle.floor_clients.specs.declared.standing.Asked.TheVariants as asked
use Rattle.floor_clients.specs.declared.standing.CloseReason.{CloseReason}
use Rattle.floor_clients.specs.declared.standing.CloseReason.TheVariants as reason
use Rattle.floor_clients.specs.declared.standing.Standing.{Standing}
use Rattle.floor_clients.specs.declared.standing.Standing.TheVariants.{Serving, Ended, Over}
use Rattle.floor_clients.specs.Lines.{first_len, line_len}
use Rattle.floor_clients.specs.Outgoing.{Outgoing, answered, is_empty, notices_len, nothing_waits, told, took}
use Rattle.floor_clients.specs.Replies.{shown_to}
use Rattle.floor_clients.specs.Wanted.{Told, is_wanted}
use Rattle.floor_clients.specs.Watched.{Watched, watches_nothing}

-- by which socket it came; how it stands; what came and is in no line that was served; what it awaits; what goes out to it; what it watches
pub record Client : Type 0 where
  pub mode : Mode
  pub standing : Standing
  pub held : List ℕ
  pub asked : Asked
  pub outgoing : Outgoing
  pub watched : Watched

abbrev pub new_client : Mode → Client
new_client mode = record { mode = mode; standing = Serving; held = []; asked = asked.Nothing; outgoing = nothing_waits; watched = watches_nothing }

-- it is to be closed
abbrev pub is_over : Standing → Bool
is_over Serving = false
is_over Ended = false
is_over (Over reason) = true

-- it awaits nothing
abbrev pub is_nothing : Asked → Bool
is_nothing asked.Nothing = true
is_nothing asked.Silent = false
is_nothing (asked.Answer id) = false

-- a line of it may be served: it isn't to be closed, awaits nothing, and no answer is under way
abbrev pub is_free : Client → Bool
is_free c = not (is_over c.standing) && is_nothing c.asked && (c.outgoing.answer == 0)

-- its first line came whole, or is too long already
abbrev pub comes_at : Option ℕ → ℕ → Bool
comes_at (Some len) held = true
comes_at None held = nat_lt 1048576 held

abbrev pub comes : List ℕ → Bool
comes held = comes_at (line_len held) (length held)

-- a line may be served, or it is to be closed since one is too long
abbrev pub is_ready : Client → Bool
is_ready c = is_free c && comes c.held

-- nothing is left to do but to shut its socket
abbrev pub is_done_at : Standing → Client → Bool
is_done_at Serving c = false
is_done_at Ended c = is_nothing c.asked && not (comes c.held)
is_done_at (Over reason) c = true

abbrev pub is_done : Client → Bool
is_done c = is_empty c.outgoing && is_done_at c.standing c

-- what came -----------------------------------------------------------------------------------------

-- bytes came: they are held while it is served
abbrev pub came_at : Standing → List ℕ → Client → Client
came_at Serving bytes c = record c { held = c.held ++ bytes }
came_at Ended bytes c = c
came_at (Over reason) bytes c = c

abbrev pub came : List ℕ → Client → Client
came bytes c = came_at c.standing bytes c

-- no more come
abbrev pub ended_at : Standing → Standing
ended_at Serving = Ended
ended_at Ended = Ended
ended_at (Over reason) = Over reason

abbrev pub ended : Client → Client
ended c = record c { standing = ended_at c.standing }

-- it is to be closed
abbrev pub closed_at : CloseReason → Standing → Standing
closed_at why Serving = Over why
closed_at why Ended = Over why
closed_at why (Over reason) = Over reason

abbrev pub closed : CloseReason → Client → Client
closed why c = record c { standing = closed_at why c.standing }

-- the line of an error of which no id is known
abbrev pub refusal_line : ErrorName → List ℕ
refusal_line name = line_of (response_json (record { id = Null; outcome = Err (record { name = name; about = All }) }))

-- it is told an error, and is to be closed
abbrev pub closed_by : ErrorName → CloseReason → Client → Client
closed_by name why c = record c { standing = Over why; outgoing = answered (refusal_line name) c.outgoing }

-- a client for which there is no place
abbrev pub full : Mode → Client
full mode = closed_by error.Full reason.Full (new_client mode)

-- answers -------------------------------------------------------------------------------------------

-- what is awaited where a request with this id, or without one, is carried out
abbrev pub asked_of : Option Id → Asked
asked_of (Some id) = asked.Answer id
asked_of None = asked.Silent

-- an answer stands behind what waits
abbrev pub responded : Response → Client → Client
responded response c = record c { outgoing = answered (line_of (response_json response)) c.outgoing }

-- what a request came to is the answer that was awaited, under its id
abbrev pub answered_at : Asked → Result Answer Failure → Client → Client
answered_at asked.Nothing outcome c = c
answered_at asked.Silent outcome c = record c { asked = asked.Nothing }
answered_at (asked.Answer id) outcome c = responded (record { id = id; outcome = shown_to c.mode outcome }) (record c { asked = asked.Nothing })

-- whoever is to be closed isn't answered
abbrev pub answered_by : Result Answer Failure → Client → Client
answered_by outcome c = if is_over c.standing then c else answered_at c.asked outcome c

-- notifications -------------------------------------------------------------------------------------

-- how many bytes of notifications may wait for it
abbrev pub max_notices : Watched → ℕ
max_notices w = if w.all then 16777216 else 1048576

abbrev pub room : Client → ℕ
room c = max_notices c.watched - notices_len c.outgoing

-- a notification's line stands behind what waits; whoever has no room for it is to be closed
abbrev pub put_told : Told → Client → Client
put_told t c =
    let line : List ℕ = line_of (notification_json t.what) in
    if nat_le (length line) (room c) then record c { outgoing = told line c.outgoing } else record c { standing = Over reason.Behind }

-- it is told what it watches, unless it is to be closed
abbrev pub told_if : Told → Client → Client
told_if t c = if not (is_over c.standing) && is_wanted c.mode c.watched t then put_told t c else c

-- so many of the bytes that wait were taken
abbrev pub took_by : ℕ → Client → Client
took_by count c = record c { outgoing = took count c.outgoing }
