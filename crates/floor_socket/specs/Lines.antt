-- What became of a line at work.
use Rattle.std.specs.Prelude.{◌≡◌, ℕ, Bool, true, false, List, Option, Some, Result, Ok, Err, string_bytes}
use Rattle.floor_socket.specs.declared.client.Seat.{Seat}
use Rattle.floor_socket.specs.declared.task.Went.{Went}
use Rattle.floor_socket.specs.declared.task.Went.TheVariants.{On, Waits, Over, Idle}
use Rattle.floor_socket.specs.declared.task.Step.TheVariants.{End}

-- it came further; where memory was refused its client is closed, and that is something too
abbrev pub has_moved : {E : Type 0} → Result Went E → Bool
has_moved (Ok (On task)) = true
has_moved (Ok (Waits task)) = false
has_moved (Ok Over) = true
has_moved (Ok Idle) = false
has_moved (Err error) = true

-- its client then
abbrev pub with_line : {E : Type 0} → Result Went E → Seat → Seat
with_line (Ok (On task)) seat = record seat { task = Some task }
with_line (Ok (Waits task)) seat = record seat { task = Some task }
with_line (Ok Over) seat = seat
with_line (Ok Idle) seat = seat
with_line (Err error) seat = record seat { has_failed = true }

-- the line is answered by this text and by nothing else, each line of it behind the tag
abbrev pub IsAnswered : Option (List ℕ) → List ℕ → Went → Type 0
IsAnswered tag text (On task) = (task.tag ≡ tag) × (task.at ≡ 0) × (string_bytes task.text ≡ text) × (task.step ≡ End)
IsAnswered tag text (Waits task) = ⊥
IsAnswered tag text Over = ⊥
IsAnswered tag text Idle = ⊥
