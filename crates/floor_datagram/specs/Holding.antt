-- What a session holds at most, whatever comes.
use Rattle.std.specs.Prelude.{◌≡◌, ◌⊎◌, ℕ, ◌+◌, ◌≤◌, false, List, [], ◌∷◌, length, Option, Some, None}
use Rattle.std.specs.List.{AllByRecursion}
use Rattle.floor_wire.specs.Message.{IsMessage, messages}
use Rattle.floor_datagram.specs.Written.{raised, pieces}
use Rattle.floor_datagram.specs.Requests.{answer_of}
use Rattle.floor_datagram.specs.HelloAck.{extended}
use Rattle.floor_datagram.specs.Notices.{Out}
use Rattle.floor_datagram.specs.Newest.{IsDistinct}
use Rattle.floor_datagram.specs.Session.{Session, Terms, goodbye}
use Rattle.floor_datagram.specs.declared.fragments.Range.{Range}

-- how many bytes these datagrams have
abbrev pub total : List (List ℕ) → ℕ
total [] = 0
total (d ∷ ds) = length d + total ds

-- how many bytes the fragments carry that are held
abbrev pub held_len : List Range → ℕ
held_len [] = 0
held_len (r ∷ rs) = length r.body + held_len rs

-- the datagrams of one answer of the server's; or what the session itself answered, of 16 bytes at most, if anything
abbrev pub IsAnswer : (limit : ℕ) → List (List ℕ) → Type 0
IsAnswer limit ds = (total ds ≤ 16) ⊎ ((m : List ℕ) × IsMessage m × (ds ≡ answer_of limit (extended m)))

-- no notice is out, or the datagrams of one message: one of the server's, or the session's own Goodbye
abbrev pub IsOneOut : Terms → Option Out → Type 0
IsOneOut terms None = Unit {0}
IsOneOut terms (Some o) = (m : List ℕ) × (IsMessage m ⊎ (m ≡ goodbye terms)) × (o.datagrams ≡ pieces terms.limit (raised false o.id m))

-- of each subject one message at most
pub record AreApart (ms : List (List ℕ)) : Type 0 where
  pub distinct : IsDistinct ms
  pub messages : AllByRecursion IsMessage ms

-- Of fragments it holds no more bytes than came, and no more than the longest message has that is put together; the datagrams of one
-- answer, and of one notice; of each subject one message that waits, and one that tells of an own request; and of the server's stream
-- no whole message.
pub record Holds (came : List (List ℕ)) (s : Session) : Type 0 where
  pub came_before : held_len s.requests.held.ranges ≤ total came
  pub fragments : held_len s.requests.held.ranges ≤ 8180
  pub answer : IsAnswer s.terms.limit s.requests.answer
  pub out : IsOneOut s.terms s.notices.out
  pub waiting : AreApart s.notices.waiting
  pub own : AreApart s.own
  pub stream : messages s.stream ≡ []

-- nothing is sent to the server, or what is fits where so many bytes wait already
abbrev pub HasRoom : (waiting : ℕ) → List ℕ → Type 0
HasRoom waiting up = (up ≡ []) ⊎ (waiting + length up ≤ 65536)
