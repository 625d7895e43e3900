-- Each line of a client has its answer, and what it watches is told in order, whatever else is called.
use Rattle.std.specs.Prelude.{◌≡◌, ℕ, List, ◌++◌, Some, false}
use Rattle.floor_clients.specs.Clients.{Client, is_over, new_client}
use Rattle.floor_clients.specs.Laws.{AreFrom, IsServedInOrder}
use Rattle.floor_clients.specs.Runs.{Runs, Step, past_by}
use Rattle.floor_clients.specs.Runs as client
use Rattle.floor_clients.specs.Watched.{next_of}
use Rattle.floor_clients.specs.declared.mode.Mode.{Mode}
use Rattle.floor_desk.specs.Callers.{caller_at}
use Rattle.floor_desk.specs.declared.caller.Caller.{Caller}
use Rattle.floor_desk.specs.declared.desk.Desk.{Desk}
use Rattle.floor_service.specs.Runs.{AllLeave, Call, Calls, came_by, taken_by}

-- these bytes are the front of those
abbrev pub IsFront : List ℕ → List ℕ → Type 0
IsFront front all = (rest : List ℕ) × (all ≡ front ++ rest)

-- What one client went through by calls of the service: calls of its own, one after another. What was taken in of it is a front of what came from its socket by
-- those calls, and what it took is what its socket took by them: no byte of another client's is among either.
pub record IsOneRun (slot : ℕ) (calls : List Call) (steps : List Step) (first last : Client) : Type 0 where
  pub run : Runs steps first last
  pub came : IsFront (client.came_by steps) (came_by slot calls)
  pub taken : client.taken_by steps ≡ taken_by slot calls

-- The law. From a client's coming on, for any list of calls of the service, whatever other clients and members ask, take, end or fail: while it is at its socket its
-- whole lines are answered in order, each once, and what its socket took, and behind it what waits, is what was written for it: its answers, and what it was told.
abbrev pub EachLineItsAnswer : Type 0
EachLineItsAnswer =
    (slot : ℕ) (mode : Mode) (calls : List Call) (joined last : Desk) (c : Caller) → caller_at joined.callers slot ≡ Some c → c.client ≡ new_client mode → AllLeave slot calls → Calls calls joined last →
    (d : Caller) × (caller_at last.callers slot ≡ Some d) × (d.number ≡ c.number) × ((steps : List Step) × IsOneRun slot calls steps c.client d.client × IsServedInOrder steps d.client)

-- The law. From a place on that a client is told next of a conference, for any list of calls of the service by which it goes on watching: the places of that
-- conference that it was told, or that show nothing, are all from there on, each once and in order, up to the one that it is told next, unless it is to be closed.
abbrev pub WatchedIsTold : Type 0
WatchedIsTold =
    (slot conference from : ℕ) (calls : List Call) (first last : Desk) (c : Caller) → caller_at first.callers slot ≡ Some c → next_of c.client.watched conference ≡ Some from →
    AllLeave slot calls → Calls calls first last →
    (d : Caller) × (caller_at last.callers slot ≡ Some d) × (d.number ≡ c.number) × ((steps : List Step) × IsOneRun slot calls steps c.client d.client
    × (client.AllLeave conference steps → is_over d.client.standing ≡ false → (next : ℕ) × (next_of d.client.watched conference ≡ Some next) × AreFrom from (past_by conference steps) next))
