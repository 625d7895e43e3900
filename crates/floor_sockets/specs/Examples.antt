-- Runs of a table with one socket: a member is ended, and shut ten seconds later; another is read to the end.
use Rattle.std.specs.Prelude.{◌≡◌, ℕ, true, false, List, [], ◌∷◌, Some}
use Rattle.floor_sockets.specs.declared.deadlines.Deadline.{Deadline}
use Rattle.floor_sockets.specs.declared.life.Asked.TheVariants as asked
use Rattle.floor_sockets.specs.declared.life.Deed.TheVariants as deed
use Rattle.floor_sockets.specs.declared.life.Life.{Life}
use Rattle.floor_sockets.specs.declared.role.Role.TheVariants.{Member}
use Rattle.floor_sockets.specs.Life.{at_deadline, came, opened, over, worded}
use Rattle.floor_sockets.specs.Rounds.{Rounds}
use Rattle.floor_sockets.specs.Sockets.{IsDone, Sockets}
use Rattle.floor_sockets.specs.Runs.{Call, Calls, Came, Does, End, Next, Readable, Time}
use Rattle.floor_sockets.specs.Laws.{IsEarly, have_last, have_shut}

-- nobody waits for a turn, and the one does
abbrev pub nobody : Rounds
nobody = record { groups = []; waiting = [] }

abbrev pub the_one : Rounds
the_one = record { groups = 0 ∷ []; waiting = (0 ∷ []) ∷ [] }

-- a table whose only slot has a socket of which this is known
abbrev pub with_one : Life → Rounds → List Deadline → ℕ → Sockets
with_one life line deadlines time = record {
  lives = Some life ∷ [];
  line = line;
  deadlines = deadlines;
  time = time;
  is_short = false;
}

abbrev pub member : Life
member = opened Member 0

-- the member is ended at the first second, and its Shut is given at the eleventh
abbrev pub ten_seconds : List Call
ten_seconds = Next (Some (deed.Shut 0)) ∷ Time 11000000 ∷ []

pub record OneIsShut : Type 0 where
  pub ended : Does (End 0) (with_one member nobody [] 1000000) (with_one (over member) nobody (record { slot = 0; until = 11000000 } ∷ []) 1000000)
  pub run : Calls ten_seconds (with_one (over member) nobody (record { slot = 0; until = 11000000 } ∷ []) 1000000) (with_one (at_deadline (over member)) nobody [] 11000000)
  pub early : IsEarly (with_one (at_deadline (over member)) nobody [] 11000000)
  pub shut : have_shut 0 ten_seconds ≡ true
  -- a microsecond before, nothing is to be done
  pub waits : IsDone (with_one (over member) nobody (record { slot = 0; until = 11000000 } ∷ []) 10999999)

-- a read is asked of a member that the poll gave word of, and finds a hundred bytes
abbrev pub one_read : List Call
one_read = Came 0 100 false ∷ Next (Some (deed.Read 0)) ∷ []

pub record OneIsRead : Type 0 where
  pub told : Does (Readable 0 false) (with_one member nobody [] 0) (with_one (worded false member) the_one [] 0)
  pub run : Calls one_read (with_one (worded false member) the_one [] 0) (with_one (came 100 false (record (worded false member) { asked = asked.Read })) nobody [] 0)
  pub done : IsDone (with_one (came 100 false (record (worded false member) { asked = asked.Read })) nobody [] 0)
  pub last : have_last 0 false one_read ≡ true
  -- of a stream that ends, or where 4,096 came, that wasn't the last
  pub of_the_end : have_last 0 true one_read ≡ false
  pub of_a_full_read : have_last 0 false (Came 0 4096 false ∷ []) ≡ false
