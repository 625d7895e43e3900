-- Runs of one client: calls, one after another, each of which did what its contract says.
use Rattle.std.specs.Prelude.{◌≡◌, ◌<◌, ℕ, ◌&&◌, Bool, true, false, min, not, nat_eq, nat_le, List, [], ◌∷◌, ◌++◌, length, take, Option, Some, None, Result, if◌then◌else◌}
use Rattle.floor_rpc.specs.Failures.{response_json}
use Rattle.floor_rpc.specs.Json.{line_of}
use Rattle.floor_rpc.specs.Notifications.{notification_json}
use Rattle.floor_rpc.specs.declared.answer.Answer.{Answer as Said}
use Rattle.floor_rpc.specs.declared.error.ErrorName.TheVariants as error
use Rattle.floor_rpc.specs.declared.failure.Failure.{Failure}
use Rattle.floor_rpc.specs.declared.id.Id.{Id}
use Rattle.floor_rpc.specs.declared.notification.Notification.{Notification}
use Rattle.floor_rpc.specs.declared.notification.Notification.TheVariants.{Event, Server}
use Rattle.floor_rpc.specs.declared.response.Response.{Response}
use Rattle.floor_clients.specs.declared.reply.Reply.{Reply}
use Rattle.floor_clients.specs.declared.reply.Reply.TheVariants as reply
use Rattle.floor_clients.specs.declared.standing.Asked.{Asked}
use Rattle.floor_clients.specs.declared.standing.Asked.TheVariants as asked
use Rattle.floor_clients.specs.declared.standing.CloseReason.{CloseReason}
use Rattle.floor_clients.specs.declared.standing.Standing.{Standing}
use Rattle.floor_clients.specs.declared.standing.Standing.TheVariants as standing
use Rattle.floor_clients.specs.Clients.{Client, answered_by, came, closed, ended, is_over, refusal_line, room, took_by}
use Rattle.floor_clients.specs.Outgoing.{lent}
use Rattle.floor_clients.specs.Replies.{shown_to}
use Rattle.floor_clients.specs.Served.{IsServed, Overlong, Tells}
use Rattle.floor_clients.specs.Wanted.{Told, is_wanted}
use Rattle.floor_clients.specs.Watched.{Sets, next_of, passed_at}

-- A call that may change a client, and what came of it: whether what came was taken in; the line that was served, and what follows from it; how a task was
-- answered; whether what happened was told; whether an event that shows nothing is past by it; the bytes that were taken.
pub data Step : Type 0 where
  Came : List ℕ → Bool → Step
  Ended : Step
  Close : CloseReason → Step
  Line : (draining : Bool) → List ℕ → Reply → Step
  TooLong : Step
  Answer : Result Said Failure → Option Response → Step
  Tell : Told → Bool → Step
  Pass : (conference place : ℕ) → Bool → Step
  Watch : (conference place : ℕ) → Step
  Unwatch : (conference : ℕ) → Step
  WatchAll : Bool → Step
  Took : List ℕ → Step

-- it is served
abbrev pub is_serving : Standing → Bool
is_serving standing.Serving = true
is_serving standing.Ended = false
is_serving (standing.Over reason) = false

-- what is written of what a request came to
abbrev pub response_at : Asked → Result Said Failure → Client → Option Response
response_at asked.Nothing outcome c = None
response_at asked.Silent outcome c = None
response_at (asked.Answer id) outcome c = Some record { id = id; outcome = shown_to c.mode outcome }

abbrev pub response_to : Result Said Failure → Client → Option Response
response_to outcome c = if is_over c.standing then None else response_at c.asked outcome c

-- the line of a notification
abbrev pub told_line : Told → List ℕ
told_line t = line_of (notification_json t.what)

-- it is told: it watches that, isn't to be closed, and has room
abbrev pub is_told : Told → Client → Bool
is_told t c = (not (is_over c.standing) && is_wanted c.mode c.watched t) && nat_le (length (told_line t)) (room c)

-- it is told this place next
abbrev pub is_next : Option ℕ → ℕ → Bool
is_next (Some next) place = nat_eq next place
is_next None place = false

-- nothing but what it watches has changed
abbrev pub Watches : Client → Client → Type 0
Watches old new = new ≡ record old { watched = new.watched }

-- so many bytes, or all that are lent, were taken: these
pub record Takes (bytes : List ℕ) (old new : Client) : Type 0 where
  pub count : ℕ
  pub bytes_are : bytes ≡ take (min count (length (lent old.outgoing))) (lent old.outgoing)
  pub next : new ≡ took_by (min count (length (lent old.outgoing))) old

-- what the contract of the call says
abbrev pub Does : Step → Client → Client → Type 0
Does (Came bytes is_taken) old new = (new ≡ came bytes old) × (is_taken ≡ is_serving old.standing)
Does Ended old new = new ≡ ended old
Does (Close why) old new = new ≡ closed why old
Does (Line draining line reply) old new = IsServed draining line reply old new
Does TooLong old new = Overlong old new
Does (Answer outcome response) old new = (new ≡ answered_by outcome old) × (response ≡ response_to outcome old)
Does (Tell t is) old new = Tells t old new × (is ≡ is_told t old)
Does (Pass conference place is) old new = Watches old new × Sets conference (passed_at place (next_of old.watched conference)) old.watched new.watched × (is ≡ is_next (next_of old.watched conference) place)
Does (Watch conference place) old new = Watches old new × Sets conference (Some place) old.watched new.watched
Does (Unwatch conference) old new = Watches old new × Sets conference None old.watched new.watched
Does (WatchAll all) old new = new ≡ record old { watched = record old.watched { all = all } }
Does (Took bytes) old new = Takes bytes old new

-- These calls, one after another, led from the first client to the last.
abbrev pub Runs : List Step → Client → Client → Type 0
Runs [] first last = last ≡ first
Runs (s ∷ ss) first last = (next : Client) × Does s first next × Runs ss next last

-- the bytes that came while it was served
abbrev pub came_of : Step → List ℕ
came_of (Came bytes true) = bytes
came_of (Came bytes false) = []
came_of Ended = []
came_of (Close why) = []
came_of (Line draining line reply) = []
came_of TooLong = []
came_of (Answer outcome response) = []
came_of (Tell t is) = []
came_of (Pass conference place is) = []
came_of (Watch conference place) = []
came_of (Unwatch conference) = []
came_of (WatchAll all) = []
came_of (Took bytes) = []

abbrev pub came_by : List Step → List ℕ
came_by [] = []
came_by (s ∷ ss) = came_of s ++ came_by ss

-- the lines that were served
abbrev pub lines_of : Step → List (List ℕ)
lines_of (Came bytes is_taken) = []
lines_of Ended = []
lines_of (Close why) = []
lines_of (Line draining line reply) = line ∷ []
lines_of TooLong = []
lines_of (Answer outcome response) = []
lines_of (Tell t is) = []
lines_of (Pass conference place is) = []
lines_of (Watch conference place) = []
lines_of (Unwatch conference) = []
lines_of (WatchAll all) = []
lines_of (Took bytes) = []

abbrev pub lines_by : List Step → List (List ℕ)
lines_by [] = []
lines_by (s ∷ ss) = lines_of s ++ lines_by ss

-- what a line is owed: this answer, or one under this id; nothing where it bears none
pub data Owed : Type 0 where
  This : Response → Owed
  Under : Id → Owed

abbrev pub owed_to : Option Id → List Owed
owed_to (Some id) = Under id ∷ []
owed_to None = []

abbrev pub owed_by_reply : Reply → List Owed
owed_by_reply reply.Silent = []
owed_by_reply (reply.Answer response) = This response ∷ []
owed_by_reply (reply.Task id call) = owed_to id

abbrev pub owed_of : Step → List Owed
owed_of (Came bytes is_taken) = []
owed_of Ended = []
owed_of (Close why) = []
owed_of (Line draining line reply) = owed_by_reply reply
owed_of TooLong = []
owed_of (Answer outcome response) = []
owed_of (Tell t is) = []
owed_of (Pass conference place is) = []
owed_of (Watch conference place) = []
owed_of (Unwatch conference) = []
owed_of (WatchAll all) = []
owed_of (Took bytes) = []

-- what the lines are owed that were served, in their order
abbrev pub owed_by : List Step → List Owed
owed_by [] = []
owed_by (s ∷ ss) = owed_of s ++ owed_by ss

abbrev pub one_response : Option Response → List Response
one_response (Some response) = response ∷ []
one_response None = []

abbrev pub answers_of_reply : Reply → List Response
answers_of_reply reply.Silent = []
answers_of_reply (reply.Answer response) = response ∷ []
answers_of_reply (reply.Task id call) = []

abbrev pub answers_of : Step → List Response
answers_of (Came bytes is_taken) = []
answers_of Ended = []
answers_of (Close why) = []
answers_of (Line draining line reply) = answers_of_reply reply
answers_of TooLong = []
answers_of (Answer outcome response) = one_response response
answers_of (Tell t is) = []
answers_of (Pass conference place is) = []
answers_of (Watch conference place) = []
answers_of (Unwatch conference) = []
answers_of (WatchAll all) = []
answers_of (Took bytes) = []

-- the answers that were written, in order
abbrev pub answers_by : List Step → List Response
answers_by [] = []
answers_by (s ∷ ss) = answers_of s ++ answers_by ss

-- the bytes of an answer, and of answers
abbrev pub answer_line : Response → List ℕ
answer_line response = line_of (response_json response)

abbrev pub answer_lines : List Response → List ℕ
answer_lines [] = []
answer_lines (r ∷ rs) = answer_line r ++ answer_lines rs

-- what is written by a call: whole lines, of an answer, of a notification that is told, or that a line is too long
abbrev pub written_of : Step → List ℕ
written_of (Came bytes is_taken) = []
written_of Ended = []
written_of (Close why) = []
written_of (Line draining line reply) = answer_lines (answers_of_reply reply)
written_of TooLong = refusal_line error.TooLong
written_of (Answer outcome response) = answer_lines (one_response response)
written_of (Tell t true) = told_line t
written_of (Tell t false) = []
written_of (Pass conference place is) = []
written_of (Watch conference place) = []
written_of (Unwatch conference) = []
written_of (WatchAll all) = []
written_of (Took bytes) = []

abbrev pub written_by : List Step → List ℕ
written_by [] = []
written_by (s ∷ ss) = written_of s ++ written_by ss

-- the bytes that were taken
abbrev pub taken_of : Step → List ℕ
taken_of (Came bytes is_taken) = []
taken_of Ended = []
taken_of (Close why) = []
taken_of (Line draining line reply) = []
taken_of TooLong = []
taken_of (Answer outcome response) = []
taken_of (Tell t is) = []
taken_of (Pass conference place is) = []
taken_of (Watch conference place) = []
taken_of (Unwatch conference) = []
taken_of (WatchAll all) = []
taken_of (Took bytes) = bytes

abbrev pub taken_by : List Step → List ℕ
taken_by [] = []
taken_by (s ∷ ss) = taken_of s ++ taken_by ss

-- the place that an event of this conference has
abbrev pub place_of : ℕ → ℕ → Notification → List ℕ
place_of conference place (Event e) = if nat_eq e.conference conference then place ∷ [] else []
place_of conference place (Server s) = []

-- the places of a conference that are past by a call: of an event that it is told, and of one that shows nothing
abbrev pub past_of : ℕ → Step → List ℕ
past_of c (Came bytes is_taken) = []
past_of c Ended = []
past_of c (Close why) = []
past_of c (Line draining line reply) = []
past_of c TooLong = []
past_of c (Answer outcome response) = []
past_of c (Tell t true) = place_of c t.place t.what
past_of c (Tell t false) = []
past_of c (Pass conference place true) = if nat_eq conference c then place ∷ [] else []
past_of c (Pass conference place false) = []
past_of c (Watch conference place) = []
past_of c (Unwatch conference) = []
past_of c (WatchAll all) = []
past_of c (Took bytes) = []

abbrev pub past_by : ℕ → List Step → List ℕ
past_by c [] = []
past_by c (s ∷ ss) = past_of c s ++ past_by c ss

-- the call leaves it whether this conference is watched
abbrev pub Leaves : ℕ → Step → Type 0
Leaves c (Came bytes is_taken) = Unit {0}
Leaves c Ended = Unit {0}
Leaves c (Close why) = Unit {0}
Leaves c (Line draining line reply) = Unit {0}
Leaves c TooLong = Unit {0}
Leaves c (Answer outcome response) = Unit {0}
Leaves c (Tell t is) = Unit {0}
Leaves c (Pass conference place is) = Unit {0}
Leaves c (Watch conference place) = nat_eq conference c ≡ false
Leaves c (Unwatch conference) = nat_eq conference c ≡ false
Leaves c (WatchAll all) = Unit {0}
Leaves c (Took bytes) = Unit {0}

abbrev pub AllLeave : ℕ → List Step → Type 0
AllLeave c [] = Unit {0}
AllLeave c (s ∷ ss) = Leaves c s × AllLeave c ss
