-- A client of a floor control server, and what it hears (RFC 8855, section 8).
use Rattle.std.specs.Prelude.{◌≡◌, ℕ, Bool, ◌&&◌, ◌==◌, not, List, Option, Some, None, if◌then◌else◌}
use Rattle.floor_message.specs.Written.{ask_bytes}
use Rattle.floor_message.specs.declared.ask.Ask.{Ask}
use Rattle.floor_message.specs.declared.head.Head.{Head}
use Rattle.floor_message.specs.declared.tell.Tell.{Tell}
use Rattle.floor_client.specs.Transactions.{Transactions, IsNext, is_open, opened, closed}
use Rattle.floor_client.specs.declared.heard.Heard.{Heard}
use Rattle.floor_client.specs.declared.heard.Heard.TheVariants.{BadMessage, Stray, Reply, Notice}

-- a user of a conference, with the numbers of its transactions
pub record Client : Type 0 where
  pub conference : ℕ
  pub user : ℕ
  pub transactions : Transactions

-- the head of what a client asks under a number
abbrev pub head_of : Client → ℕ → Head
head_of client number = record { conference = client.conference; transaction = number; user = client.user }

-- The client wrote what it asks under the next number, and opened that number alone.
pub record Asks (old : Client) (ask : Ask) (frame : List ℕ) (new : Client) : Type 0 where
  pub number : ℕ
  pub next : IsNext old.transactions number
  pub written : frame ≡ ask_bytes (head_of old number) ask
  pub after : new ≡ record old { transactions = opened old.transactions number }

-- the head names the client's conference and user
abbrev pub is_own : Client → Head → Bool
is_own client head = (head.conference == client.conference) && (head.user == client.user)

-- what a message to the client itself is: a notice under 0, a response where its number is open
abbrev pub heard_own : Client → Head → Tell → Heard
heard_own client head tell =
    if head.transaction == 0 then Notice tell
    else if is_open client.transactions.open_numbers head.transaction then Reply head.transaction tell
    else Stray

-- what a message is to a client, by what it tells and under which head
abbrev pub heard_of : Client → Option (Head × Tell) → Heard
heard_of client None = BadMessage
heard_of client (Some told) = if is_own client told.0 then heard_own client told.0 told.1 else Stray

-- the client afterwards: a response closes its number, and nothing else changes
abbrev pub hearing : Client → Heard → Client
hearing client BadMessage = client
hearing client Stray = client
hearing client (Reply number tell) = record client { transactions = closed client.transactions number }
hearing client (Notice tell) = client

-- The client heard what the message is to it.
pub record Hears (old : Client) (told : Option (Head × Tell)) (heard : Heard) (new : Client) : Type 0 where
  pub value : heard ≡ heard_of old told
  pub after : new ≡ hearing old heard
