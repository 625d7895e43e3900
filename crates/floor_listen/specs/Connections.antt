-- The connections of a server, their sockets, and the seats of those that ended.
use Rattle.std.specs.Prelude.{◌≡◌, ◌≢◌, ◌==◌, ◌<◌, ◌≤◌, ◌+◌, ◌++◌, ℕ, Bool, List, [], ◌∷◌, All, Option, Some, None, count_by, map, filter, option_to_list, option_map, position, Result, Ok, Err, true, false}
use Rattle.std.specs.List.{remove, slice_get}
use Rattle.floor_listen.specs.declared.connections.Begun.{Begun}
use Rattle.floor_listen.specs.declared.connections.Gone.{Gone}
use Rattle.floor_listen.specs.declared.connections.Open.{Open}
use Rattle.floor_listen.specs.declared.connections.Running.{Running}
use Rattle.floor_listen.specs.declared.connections.TheConstants.{MAX_CONNECTIONS}

-- the connections that run, in the order in which they began; their sockets, until they are given up; the seats of those that ended, in
-- the order in which they ended; and how many connections ever began
pub record Connections (S T : Type 0) : Type 0 where
  pub running : List Running
  pub sockets : List (Open S)
  pub seats : List T
  pub begun : ℕ

-- a connection with a thread joins, one without never does
abbrev pub joining : Bool → Begun → Result Begun Gone
joining true begun = Ok begun
joining false begun = Err record { number = begun.number; has_joined = false }

-- how many places of a conference are taken: as many as connections of it run
abbrev pub taken : ℕ → List Running → ℕ
taken conference running = count_by (λ c. c.conference == conference) running

-- how many connections to a port run
abbrev pub taken_of_port : ℕ → List Running → ℕ
taken_of_port port running = count_by (λ c. c.port == port) running

-- each connection that runs has a number that was given out
abbrev pub IsNumbered : List Running → ℕ → Type 0
IsNumbered running begun = All (λ c. c.number < begun) running

-- no conference has more connections than it may have
abbrev pub IsBounded : List Running → Type 0
IsBounded running = (conference : ℕ) → taken conference running ≤ MAX_CONNECTIONS

-- where the connection with this number stands among those that run
abbrev pub place_of : ℕ → List Running → Option ℕ
place_of number running = position (λ c. c.number == number) running

module _ {S : Type 0} where
  -- where the socket of the connection with this number stands
  abbrev pub open_place_of : ℕ → List (Open S) → Option ℕ
  open_place_of number sockets = position (λ o. o.number == number) sockets

  -- what stands at the place, if there is one
  abbrev pub socket_at : Option ℕ → List (Open S) → Option S
  socket_at None sockets = None
  socket_at (Some place) sockets = option_map (λ o. o.socket) (slice_get sockets place)

  -- the socket of the connection with this number
  abbrev pub socket_of : ℕ → List (Open S) → Option S
  socket_of number sockets = socket_at (open_place_of number sockets) sockets

  -- the sockets of the connections to a port
  abbrev pub sockets_of : ℕ → List (Open S) → List S
  sockets_of port sockets = map (λ o. o.socket) (filter (λ o. o.port == port) sockets)

module _ {S T : Type 0} where
  -- A connection has begun: it has a number that none has that runs, stands last, with its socket, and nothing else has changed.
  pub record Began (old new : Connections S T) (conference port : ℕ) (socket : S) (begun : Begun) : Type 0 where
    pub number_is : begun.number ≡ old.begun
    pub fresh : All (λ c. c.number ≢ begun.number) old.running
    pub next : new ≡ record {
      running = old.running ++ record { number = begun.number; conference = conference; port = port } ∷ [];
      sockets = old.sockets ++ record { number = begun.number; port = port; socket = socket } ∷ [];
      seats = old.seats;
      begun = old.begun + 1;
    }

  abbrev pub released_at : Option ℕ → Connections S T → Connections S T
  released_at None old = old
  released_at (Some place) old = record old { sockets = remove old.sockets place }

  -- the connections, after the one with this number gave its socket up
  abbrev pub released : ℕ → Connections S T → Connections S T
  released number old = released_at (open_place_of number old.sockets) old

  abbrev pub ended_at : Option ℕ → Option T → Connections S T → Connections S T
  ended_at None seat old = old
  ended_at (Some place) seat old = record old { running = remove old.running place; seats = old.seats ++ option_to_list seat }

  -- the connections, after the one with this number has ended, with its seat if it ever joined: it runs no more, and its seat stands last
  abbrev pub ended : ℕ → Option T → Connections S T → Connections S T
  ended number seat old = ended_at (place_of number old.running) seat old
