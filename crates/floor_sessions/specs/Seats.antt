-- The sessions of users, each at its user's place (RFC 8855, sections 6.2 and 8.3).
use Rattle.std.specs.Prelude.{◌≡◌, ◌≢◌, ℕ, ◌-◌, ◌==◌, Bool, ◌&&◌, List, [], ◌∷◌, ◌++◌, Option, Some, None, option_map, slice_get, if◌then◌else◌}
use Rattle.floor_datagram.specs.Datagrams.{id_of}
use Rattle.floor_datagram.specs.Written.{error, goodbye_ack}
use Rattle.floor_datagram.specs.Pace.{t2_of}
use Rattle.floor_datagram.specs.Session as session
use Rattle.floor_datagram.specs.Session.{Terms, begins, has_ended}
use Rattle.floor_sessions.specs.Way.{way_of}
use Rattle.floor_sessions.specs.declared.admission.Source.{Source}
use Rattle.floor_sessions.specs.declared.way.Standing.{Standing}
use Rattle.floor_sessions.specs.declared.way.Way.{Way}
use Rattle.floor_sessions.specs.declared.way.Way.TheVariants.{Dropped, Misfit, Parting, Onward, Begins, Moves, Anew}
use Rattle.floor_sessions.specs.declared.seat.Seat.{Seat}

abbrev pub is_same_source : Source → Source → Bool
is_same_source a b = (a.address == b.address) && (a.port == b.port)

-- what is known of a session, for a datagram from there
abbrev pub standing_of : Source → (now : ℕ) → Seat → Standing
standing_of from now seat = record {
  is_here = is_same_source seat.source from;
  has_ended = has_ended seat.session;
  last = seat.session.requests.last;
  ago = now - (if has_ended seat.session then seat.session.ended else seat.session.taken);
  t2 = t2_of seat.session.notices.pace.t1;
}

-- the way of a datagram of the user whose seat this is
abbrev pub way_at : Option Seat → Source → (now : ℕ) → List ℕ → Way
way_at seat from now d = way_of (option_map (λ s. standing_of from now s) seat) d

-- the seat behind a datagram, and what is sent
pub record Outcome : Type 0 where
  pub seat : Option Seat
  pub up : List ℕ
  pub down : List (List ℕ)

abbrev pub stays : Option Seat → List (List ℕ) → Outcome
stays seat down = record { seat = seat; up = []; down = down }

-- The datagram goes to the session.
abbrev pub fed_to : Seat → (waiting now : ℕ) → List ℕ → Outcome
fed_to seat waiting now d = record {
  seat = Some (record { source = seat.source; session = (session.datagram seat.session waiting now d).after });
  up = (session.datagram seat.session waiting now d).up;
  down = (session.datagram seat.session waiting now d).down;
}

abbrev pub fed : Option Seat → (waiting now : ℕ) → List ℕ → Outcome
fed None waiting now d = stays None []
fed (Some seat) waiting now d = fed_to seat waiting now d

-- A session begins with it.
abbrev pub begun : Terms → Source → (waiting now : ℕ) → List ℕ → Outcome
begun terms from waiting now d = fed_to (record { source = from; session = begins terms (id_of d) now }) waiting now d

abbrev pub goes : Way → Option Seat → Terms → Source → (waiting now : ℕ) → List ℕ → Outcome
goes Dropped seat terms from waiting now d = stays seat []
goes Misfit seat terms from waiting now d = stays seat (error 13 d ∷ [])
goes Parting seat terms from waiting now d = stays seat (goodbye_ack d ∷ [])
goes Onward seat terms from waiting now d = fed seat waiting now d
goes Begins seat terms from waiting now d = begun terms from waiting now d
goes Moves seat terms from waiting now d = begun terms from waiting now d
goes Anew seat terms from waiting now d = begun terms from waiting now d

-- The outcome took place.
pub record Happened (o : Outcome) (seat : Option Seat) (up_old up_new : List ℕ) (down_old down_new : List (List ℕ)) : Type 0 where
  pub seat_is : seat ≡ o.seat
  pub up : up_new ≡ up_old ++ o.up
  pub down : down_new ≡ down_old ++ o.down

-- Of all places this one alone has another seat.
abbrev pub IsAlone : (place : ℕ) → (old new : List (Option Seat)) → Type 0
IsAlone place old new = (other : ℕ) → other ≢ place → slice_get new other ≡ slice_get old other
