-- Each line has its answer, in order and once; what is taken is what was written; and what is watched is told in order, none left out.
use Rattle.std.specs.Prelude.{◌≡◌, ◌≤◌, ℕ, ◌+◌, false, List, [], ◌∷◌, ◌++◌, Some}
use Rattle.floor_rpc.specs.declared.id.Id.{Id}
use Rattle.floor_rpc.specs.declared.response.Response.{Response}
use Rattle.floor_clients.specs.declared.mode.Mode.{Mode}
use Rattle.floor_clients.specs.declared.standing.Asked.{Asked}
use Rattle.floor_clients.specs.declared.standing.Asked.TheVariants as asked
use Rattle.floor_clients.specs.Clients.{Client, is_over, new_client}
use Rattle.floor_clients.specs.Lines.{has_line_feed, lined}
use Rattle.floor_clients.specs.Outgoing.{notices_len}
use Rattle.floor_clients.specs.Runs.{AllLeave, Owed, Runs, Step, This, Under, answers_by, came_by, lines_by, owed_by, past_by, taken_by, written_by}
use Rattle.floor_clients.specs.Watched.{next_of}

-- no line has a line feed
abbrev pub AreWhole : List (List ℕ) → Type 0
AreWhole [] = Unit {0}
AreWhole (line ∷ lines) = (has_line_feed line ≡ false) × AreWhole lines

-- an answer is what was owed
abbrev pub IsOwed : Owed → Response → Type 0
IsOwed (This response) r = r ≡ response
IsOwed (Under id) r = r.id ≡ id

-- What was owed is answered one by one, in order, up to what is left.
abbrev pub Matches : List Owed → List Response → List Owed → Type 0
Matches [] [] left = left ≡ []
Matches [] (r ∷ rs) left = ⊥
Matches (o ∷ os) [] left = left ≡ o ∷ os
Matches (o ∷ os) (r ∷ rs) left = IsOwed o r × Matches os rs left

-- what is awaited yet: one answer at most
abbrev pub awaited : Asked → List Owed
awaited asked.Nothing = []
awaited asked.Silent = []
awaited (asked.Answer id) = Under id ∷ []

-- Of a run: the bytes that came are the lines that were served, each with its line feed, and what is held; the answers that were written are what these lines
-- are owed, in their order, each once, but for one that is awaited yet; and the bytes that were taken, and behind them those that wait, are what was written.
pub record IsServedInOrder (steps : List Step) (last : Client) : Type 0 where
  pub came : came_by steps ≡ lined (lines_by steps) ++ last.held
  pub whole : AreWhole (lines_by steps)
  pub answers : Matches (owed_by steps) (answers_by steps) (awaited last.asked)
  pub taken : taken_by steps ++ last.outgoing.bytes ≡ written_by steps

abbrev pub EachLineItsAnswer : Type 0
EachLineItsAnswer = (mode : Mode) (steps : List Step) (last : Client) → Runs steps (new_client mode) last → IsServedInOrder steps last

-- The places are those from the first on, one behind another, up to the one in front of the next.
abbrev pub AreFrom : ℕ → List ℕ → ℕ → Type 0
AreFrom first [] next = next ≡ first
AreFrom first (place ∷ places) next = (place ≡ first) × AreFrom (first + 1) places next

-- From a place on that a client is told next of a conference, while it watches it by its number and isn't to be closed: the places of that conference that it
-- was told, or that show nothing, are all from there on, each once and in order, up to the one that it is told next.
abbrev pub WatchedIsTold : Type 0
WatchedIsTold =
    (c from : ℕ) (steps : List Step) (first last : Client) → next_of first.watched c ≡ Some from → AllLeave c steps → Runs steps first last → is_over last.standing ≡ false →
    (next : ℕ) × (next_of last.watched c ≡ Some next) × AreFrom from (past_by c steps) next

-- Whatever is called, no more than 16 MiB of notifications wait for a client.
abbrev pub NoticesAreBounded : Type 0
NoticesAreBounded = (mode : Mode) (steps : List Step) (last : Client) → Runs steps (new_client mode) last → notices_len last.outgoing ≤ 16777216
