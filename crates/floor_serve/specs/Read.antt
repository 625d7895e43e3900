-- What a reader submitted of the bytes that it read.
use Rattle.std.specs.Prelude.{◌≡◌, ℕ, ◌<◌, ◌≤◌, Bool, true, false, List, [], ◌∷◌, ◌++◌, length, map, Option, Result, Ok, Err}
use Rattle.std.specs.Io.KnownBytes.{Consumes, IsAtEnd}
use Rattle.floor_wire.specs.Message.{messages, rest}
use Rattle.floor_machine.specs.declared.machine.Refusal.TheVariants.{Memory}
use Rattle.floor_room.specs.declared.refusal.RoomRefusal.{RoomRefusal}
use Rattle.floor_room.specs.declared.refusal.RoomRefusal.TheVariants.{JournalFull, Refused}
use Rattle.floor_serve.specs.declared.fault.ReadFault.{ReadFault}
use Rattle.floor_serve.specs.declared.reading.ReadEnd.{ReadEnd}
use Rattle.floor_serve.specs.declared.seat.Sent.{Sent}
use Rattle.floor_serve.specs.Seat.{Seat}

-- the fault of a reader whose conference refuses a message
abbrev pub fault_of : RoomRefusal → ReadFault
fault_of JournalFull = ReadFault.Refused JournalFull
fault_of (Refused Memory) = ReadFault.Memory
fault_of (Refused refusal) = ReadFault.Refused (Refused refusal)

-- the messages that are recorded, in order
abbrev pub bytes_of : List Sent → List (List ℕ)
bytes_of sent = map (λ s. s.bytes) sent

-- The record of the seat gained these messages, each with a place.
pub record Gained (old new : Seat) (gained : List (List ℕ)) : Type 0 where
  pub sent : List Sent
  pub next : new ≡ record old { sent = old.sent ++ sent }
  pub are : bytes_of sent ≡ gained

-- The record of the seat gained some first of these messages.
pub record Began (old new : Seat) (all : List (List ℕ)) : Type 0 where
  pub gained : List (List ℕ)
  pub left : List (List ℕ)
  pub parts : all ≡ gained ++ left
  pub record_is : Gained old new gained

-- The record of the seat gained some first of these messages, but not the one behind them.
pub record Missed (old new : Seat) (all : List (List ℕ)) : Type 0 where
  pub gained : List (List ℕ)
  pub missed : List ℕ
  pub left : List (List ℕ)
  pub parts : all ≡ gained ++ missed ∷ left
  pub record_is : Gained old new gained

-- what a refusal left: but for Memory, the message that was refused is the first that isn't recorded
abbrev pub Refuses : RoomRefusal → Seat → Seat → List (List ℕ) → Type 0
Refuses (Refused Memory) old new all = Began old new all
Refuses JournalFull old new all = Missed old new all
Refuses (Refused refusal) old new all = Missed old new all

-- how reading ended after these bytes, of a source that has these left, in at most so many reads: all their messages were submitted, but where the
-- conference or memory refused one. The source is at its end where reading says so, and is marked after a failed read alone; the limit was met where each
-- read of so many gave a byte; and a refusal that is Memory is no other one.
abbrev pub IsEnd : ℕ → Result ReadEnd ReadFault → Seat → Seat → Option (List ℕ) → Bool → List ℕ → Type 0
IsEnd limit (Ok ReadEnd.Closed) old new is marked read = Gained old new (messages read) × (rest read ≡ []) × IsAtEnd is × (marked ≡ false)
IsEnd limit (Ok (ReadEnd.Cut k)) old new is marked read = Gained old new (messages read) × (k ≡ length (rest read)) × (0 < k) × IsAtEnd is × (marked ≡ false)
IsEnd limit (Err ReadFault.Read) old new is marked read = Gained old new (messages read) × (marked ≡ true)
IsEnd limit (Err ReadFault.TurnLimit) old new is marked read = Gained old new (messages read) × (limit ≤ length read) × (marked ≡ false)
IsEnd limit (Err (ReadFault.Refused refusal)) old new is marked read = Missed old new (messages read) × (fault_of refusal ≡ ReadFault.Refused refusal) × (marked ≡ false)
IsEnd limit (Err ReadFault.Memory) old new is marked read = Began old new (messages read) × (marked ≡ false)

-- Some bytes were read from the source, in at most so many reads, and reading ended so after them.
pub record Ended (limit : ℕ) (result : Result ReadEnd ReadFault) (old new : Seat) (was is : Option (List ℕ)) (marked : Bool) : Type 0 where
  pub read : List ℕ
  pub consumed : Consumes was is read
  pub after : IsEnd limit result old new is marked read
