-- What serving a line comes to, and telling what happened.
use Rattle.std.specs.Prelude.{◌≡◌, ◌≤◌, ℕ, ◌+◌, Bool, true, false, List, ◌∷◌, ◌++◌, length, Option, Some, None}
use Rattle.floor_rpc.specs.Failures.{response_json}
use Rattle.floor_rpc.specs.Json.{line_of}
use Rattle.floor_rpc.specs.declared.error.ErrorName.TheVariants as error
use Rattle.floor_rpc.specs.declared.notification.Notification.{Notification}
use Rattle.floor_rpc.specs.declared.notification.Notification.TheVariants.{Event, Server}
use Rattle.floor_clients.specs.declared.reply.Reply.{Reply}
use Rattle.floor_clients.specs.declared.reply.Reply.TheVariants as reply
use Rattle.floor_clients.specs.declared.standing.Asked.{Asked}
use Rattle.floor_clients.specs.declared.standing.CloseReason.TheVariants as reason
use Rattle.floor_clients.specs.declared.standing.Next.{Next}
use Rattle.floor_clients.specs.declared.standing.Next.TheVariants as next
use Rattle.floor_clients.specs.Clients.{Client, asked_of, closed_by, is_free, is_ready, told_if}
use Rattle.floor_clients.specs.Lines.{has_line_feed, is_too_long}
use Rattle.floor_clients.specs.Outgoing.{Outgoing, answered}
use Rattle.floor_clients.specs.Replies.{IsReplyTo}
use Rattle.floor_clients.specs.Wanted.{Told}
use Rattle.floor_clients.specs.Watched.{Sets, Watched, next_of, passed_at}

-- what is awaited behind a line, by what follows from it
abbrev pub asked_after : Reply → Asked → Asked
asked_after reply.Silent asked = asked
asked_after (reply.Answer response) asked = asked
asked_after (reply.Task id call) asked = asked_of id

-- what goes out behind it: its answer stands behind what waits
abbrev pub outgoing_after : Reply → Outgoing → Outgoing
outgoing_after reply.Silent o = o
outgoing_after (reply.Answer response) o = answered (line_of (response_json response)) o
outgoing_after (reply.Task id call) o = o

-- the client behind it, where these bytes are held then
abbrev pub behind : Reply → List ℕ → Client → Client
behind reply held c = record c { held = held; asked = asked_after reply c.asked; outgoing = outgoing_after reply c.outgoing }

-- what is given to be done
abbrev pub given : Reply → Next
given reply.Silent = next.Served
given (reply.Answer response) = next.Served
given (reply.Task id call) = next.Task call

-- The first of the bytes that are held are this line and a line feed, and this follows from it.
pub record IsServed (draining : Bool) (line : List ℕ) (r : Reply) (old new : Client) : Type 0 where
  pub free : is_free old ≡ true
  pub front : old.held ≡ line ++ 10 ∷ new.held
  pub whole : has_line_feed line ≡ false
  pub few : length line ≤ 1048576
  pub follows : IsReplyTo old.mode draining line r
  pub next : new ≡ behind r new.held old

-- A line was served, and this is given to be done.
abbrev pub Serves : Bool → Next → Client → Client → Type 0
Serves draining n old new = (line : List ℕ) × (r : Reply) × IsServed draining line r old new × (n ≡ given r)

-- A line is too long: it is told so and is to be closed.
pub record Overlong (old new : Client) : Type 0 where
  pub free : is_free old ≡ true
  pub long : is_too_long old.held ≡ true
  pub next : new ≡ closed_by error.TooLong reason.TooLong old

-- what came of asking for the next line
abbrev pub Goes : Bool → Next → Client → Client → Type 0
Goes draining next.Nothing old new = (is_ready old ≡ false) × (new ≡ old)
Goes draining next.Served old new = Serves draining next.Served old new
Goes draining (next.Task call) old new = Serves draining (next.Task call) old new
Goes draining next.Closed old new = Overlong old new

-- what an event shows is past behind it; of what else happened nothing is
abbrev pub Passes : Notification → ℕ → Watched → Watched → Type 0
Passes (Event e) place old new = Sets e.conference (passed_at place (next_of old e.conference)) old new
Passes (Server s) place old new = new ≡ old

-- It is told, if it watches that, and it is past.
pub record Tells (t : Told) (old new : Client) : Type 0 where
  pub told : new ≡ record (told_if t old) { watched = new.watched }
  pub watched : Passes t.what t.place old.watched new.watched
