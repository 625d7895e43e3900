-- Whoever is to be shut down is shut in time.
use Rattle.std.specs.Prelude.{◌≡◌, ◌≤◌, ◌⊎◌, ◌||◌, ℕ, Bool, true, false, List, [], ◌∷◌, Option, Some}
use Rattle.floor_sockets.specs.declared.life.Deed.{Deed as Asked}
use Rattle.floor_sockets.specs.declared.life.Deed.TheVariants as asked
use Rattle.floor_sockets.specs.declared.life.Life.{Life}
use Rattle.floor_sockets.specs.Laws.{IsEarly, is_shut}
use Rattle.floor_sockets.specs.Life.{is_shutting}
use Rattle.floor_sockets.specs.Runs.{Does, End, Fail, Readable, Took}
use Rattle.floor_sockets.specs.Sockets.{Sockets, later, life_at}
use Rattle.floor_connections.specs.Asked.{is_over}
use Rattle.floor_connections.specs.declared.connections.Connections.{Connections}
use Rattle.floor_connections.specs.declared.deed.Deed.{Deed}
use Rattle.floor_connections.specs.declared.deed.Deed.TheVariants as deed
use Rattle.floor_connections.specs.Steps.{Steps, StepsBy}
use Rattle.floor_connections.specs.Table.{socket_at}
use Rattle.floor_turn.specs.declared.server.Server.{Server}

-- A write to the socket failed. One that is to be shut down is shut at once. To any other nothing is lent until it is seen to again, and it is as if the poll told that it may be read, and that its stream ends.
pub record IsUnwritten (socket : ℕ) (old new : Sockets) : Type 0 where
  pub over : is_over (life_at old socket) ≡ true → Does (Fail socket) old new
  pub read : is_over (life_at old socket) ≡ false → (between : Sockets) × Does (Took socket 0 0) old between × Does (Readable socket true) between new

-- Where floor_sockets gave the Shut of a slot: it is handed out as that of a socket or of a listener, or nobody is at the slot any more, of which the system didn't know.
abbrev pub IsHandedOut : Option Asked → Option Deed → Connections → Type 0
IsHandedOut given result c =
    (slot : ℕ) → given ≡ Some (asked.Shut slot) → (result ≡ Some (deed.Shut slot)) ⊎ (result ≡ Some (deed.Unlisten slot)) ⊎ ((result ≡ Some deed.Turn) × (socket_at c.table slot ≡ Option.None))

-- These calls of the server, the first in front, led from the first value to the last; of each is named what floor_sockets gave to be done by it, if anything.
abbrev pub Runs : List (Option Asked) → Server → Server → Type 0
Runs [] first last = last ≡ first
Runs (g ∷ gs) first last = (next : Server) × StepsBy (λ slot. is_shut slot g) first.connections.sockets next.connections.sockets × Runs gs next last

-- the slot's Shut was given by one of them
abbrev pub was_shut : ℕ → List (Option Asked) → Bool
was_shut slot [] = false
was_shut slot (g ∷ gs) = is_shut slot g || was_shut slot gs

-- Whoever is ended by a call, and isn't over or being shut: behind whatever calls, once ten seconds have gone by and no deadline has come that wasn't done, its Shut was given.
abbrev pub WhoIsEndedIsShut : Type 0
WhoIsEndedIsShut =
    (slot : ℕ) (l : Life) (given : List (Option Asked)) (before ended : Sockets) (first last : Server) → life_at before slot ≡ Some l → l.is_over ≡ false → is_shutting l.asked ≡ false →
    Does (End slot) before ended → Steps ended first.connections.sockets → Runs given first last → later before.time 10000000 ≤ last.connections.sockets.time → IsEarly last.connections.sockets → was_shut slot given ≡ true

-- Whoever fails by a call, and isn't being shut: behind whatever calls, once no deadline has come that wasn't done, its Shut was given.
abbrev pub WhoFailsIsShut : Type 0
WhoFailsIsShut =
    (slot : ℕ) (l : Life) (given : List (Option Asked)) (before failed : Sockets) (first last : Server) → life_at before slot ≡ Some l → is_shutting l.asked ≡ false →
    Does (Fail slot) before failed → Steps failed first.connections.sockets → Runs given first last → IsEarly last.connections.sockets → was_shut slot given ≡ true
