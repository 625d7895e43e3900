-- Laws of a client: its numbers, and the responses to what it asks (RFC 8855, section 8).
use Rattle.std.specs.Prelude.{◌≡◌, ℕ, ◌<◌, ◌≤◌, ◌==◌, ◌||◌, ◌&&◌, not, true, List}
use Rattle.floor_message.specs.Fits.{HeadFits, TellFits}
use Rattle.floor_message.specs.Tell.{tell}
use Rattle.floor_message.specs.Written.{tell_bytes}
use Rattle.floor_message.specs.declared.ask.Ask.{Ask}
use Rattle.floor_message.specs.declared.tell.Tell.{Tell}
use Rattle.floor_client.specs.Client.{Client, Asks, head_of, heard_of, hearing}
use Rattle.floor_client.specs.Transactions.{Transactions, IsNext, IsFull, is_open, opened, closed}
use Rattle.floor_client.specs.declared.heard.Heard.TheVariants.{Reply}

-- The next number is one of 1 to 65,535, no two numbers are next, and none is where all are open.
pub record NextIsOne : Type 0 where
  pub range : (t : Transactions) (number : ℕ) → IsNext t number → (0 < number) × (number ≤ 65535)
  pub only : (t : Transactions) (a b : ℕ) → IsNext t a → IsNext t b → a ≡ b
  pub none : (t : Transactions) (number : ℕ) → IsFull t → IsNext t number → ⊥

-- to open a number opens that number alone
abbrev pub OpensAlone : Type 0
OpensAlone = (t : Transactions) (number other : ℕ)
    → is_open (opened t number).open_numbers other ≡ (number == other || is_open t.open_numbers other)

-- to close a number closes that number alone
abbrev pub ClosesAlone : Type 0
ClosesAlone = (t : Transactions) (number other : ℕ)
    → is_open (closed t number).open_numbers other ≡ (not (other == number) && is_open t.open_numbers other)

-- what a server tells a client under an open number is heard as the response to it
abbrev pub ResponseIsHeard : Type 0
ResponseIsHeard = (client : Client) (number : ℕ) (answer : Tell) → HeadFits (head_of client number) → TellFits answer → 0 < number
    → is_open client.transactions.open_numbers number ≡ true
    → heard_of client (tell (tell_bytes (head_of client number) answer)) ≡ Reply number answer

-- the response to what a client asked closes the number that it was asked under, and leaves the others as they were
abbrev pub ResponseRestores : Type 0
ResponseRestores = (old : Client) (ask : Ask) (frame : List ℕ) (new : Client) (asks : Asks old ask frame new) (answer : Tell)
    → HeadFits (head_of old asks.number) → TellFits answer
    → let heard = heard_of new (tell (tell_bytes (head_of old asks.number) answer)) in
    (heard ≡ Reply asks.number answer)
    × ((other : ℕ) → is_open (hearing new heard).transactions.open_numbers other ≡ is_open old.transactions.open_numbers other)
