-- A session over a whole run, whatever comes, is lost, repeated and reordered (RFC 8855, sections 6.2, 8.1 and 8.3).
use Rattle.std.specs.Prelude.{◌≡◌, ℕ, ◌≤◌, true, List, [], ◌∷◌, ◌++◌, length, is_some, ◌⊎◌}
use Rattle.floor_datagram.specs.Taken.{Carried}
use Rattle.floor_datagram.specs.Session as session
use Rattle.floor_datagram.specs.Session.{Session, Effect}
use Rattle.floor_datagram.specs.declared.end.End.{End}

-- a datagram, where so many bytes wait for the server; a piece of the server's stream; the end of that stream; the session is to
-- end with a word to the peer, or without one; and time passes: each at a time
pub data Input : Type 0 where
  datagram : (waiting now : ℕ) → List ℕ → Input
  piece : (now : ℕ) → List ℕ → Input
  ends : (now : ℕ) → Input
  shut : End → (now : ℕ) → Input
  lost : End → (now : ℕ) → Input
  late : (now : ℕ) → Input

-- what an input does
abbrev pub step : Session → Input → Effect
step s (datagram waiting now d) = session.datagram s waiting now d
step s (piece now p) = session.server s now p
step s (ends now) = session.unless_ended s (session.server_ends now s)
step s (shut end now) = session.unless_ended s (session.shuts_out end now s)
step s (lost end now) = session.unless_ended s (session.loses end now s)
step s (late now) = session.time s now

-- what a run does: all that the server is sent, and all that the peer is sent
abbrev pub run : Session → List Input → Effect
run s [] = session.nothing s
run s (i ∷ is) = record {
  after = (run (step s i).after is).after;
  up = (step s i).up ++ (run (step s i).after is).up;
  down = (step s i).down ++ (run (step s i).after is).down;
}

-- the datagrams of an input, and of a run
abbrev pub came_by : Input → List (List ℕ)
came_by (datagram waiting now d) = d ∷ []
came_by (piece now p) = []
came_by (ends now) = []
came_by (shut end now) = []
came_by (lost end now) = []
came_by (late now) = []

abbrev pub came : List Input → List (List ℕ)
came [] = []
came (i ∷ is) = came_by i ++ came is

-- each datagram has a whole header
abbrev pub IsWhole : Input → Type 0
IsWhole (datagram waiting now d) = 12 ≤ length d
IsWhole (piece now p) = Unit {0}
IsWhole (ends now) = Unit {0}
IsWhole (shut end now) = Unit {0}
IsWhole (lost end now) = Unit {0}
IsWhole (late now) = Unit {0}

abbrev pub AreWhole : List Input → Type 0
AreWhole [] = Unit {0}
AreWhole (i ∷ is) = IsWhole i × AreWhole is

-- nothing, or one byte of a message that doesn't come, where the session has ended
abbrev pub IsLast : List ℕ → Session → Type 0
IsLast last s = (last ≡ []) ⊎ ((last ≡ 0x20 ∷ []) × (is_some s.end ≡ true))

-- Of the datagrams that came these requests were taken, each once and newer than the one before, each made of datagrams that came;
-- the server was sent what they ask, in order, and behind it nothing, or one byte where the session has ended.
pub record Serves (came : List (List ℕ)) (up : List ℕ) (s : Session) : Type 0 where
  pub asked : List ℕ
  pub carried : Carried came asked s.requests
  pub last : List ℕ
  pub up_is : up ≡ asked ++ last
  pub ending : IsLast last s
  pub over : is_some s.end ≡ true → s.requests.over ≡ true
