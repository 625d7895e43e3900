-- A run in which somebody was ended, for the proofs of the law's application.
use Rattle.std.specs.Prelude.{◌≡◌, ◌≤◌, ℕ, Bool, true, false, List, Some, None, length}
use Rattle.floor_sockets.specs.declared.life.Deed.{Deed}
use Rattle.floor_sockets.specs.declared.life.Life.{Life}
use Rattle.floor_sockets.specs.Life.{is_shutting}
use Rattle.floor_sockets.specs.Sockets.{Sockets, later, life_at}
use Rattle.floor_sockets.specs.Runs.{Call, Calls, Does, End}
use Rattle.floor_sockets.specs.Laws.{given, have_shut, is_shut}

-- The socket in the slot was ended, these calls followed, none of which gave its Shut, and ten seconds have gone by.
pub record IsEnding (slot : ℕ) (s : Sockets) : Type 0 where
  pub before : Sockets
  pub first : Sockets
  pub life : Life
  pub calls : List Call
  pub there : life_at before slot ≡ Some life
  pub goes_on : life.is_over ≡ false
  pub unshut : is_shutting life.asked ≡ false
  pub ended : Does (End slot) before first
  pub run : Calls calls first s
  pub late : later before.time 10000000 ≤ s.time
  pub unheard : have_shut slot calls ≡ false

-- A deed was answered by a call: it was the slot's Shut where the test says so, and then the slot is free.
pub record IsAnswered (done : Deed) (slot : ℕ) (old : Sockets) (is_its : Bool) (new : Sockets) : Type 0 where
  pub its : is_its ≡ is_shut slot (Some done)
  pub call : Call
  pub does : Does call old new
  pub gave_none : given call ≡ None
  pub time : new.time ≡ old.time
  pub fewer : length new.deadlines ≤ length old.deadlines
  pub shut : is_its ≡ true → (l : Life) → life_at old slot ≡ Some l → is_shutting l.asked ≡ true → life_at new slot ≡ None
