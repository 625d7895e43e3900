-- What a run reads of its input, and what it prints by that.
use Rattle.std.specs.Prelude.{◌≡◌, ℕ, ◌≤◌, ◌⊎◌, Bool, true, false, List, [], Option}
use Rattle.std.specs.Io.KnownBytes.{Appends, Consumes, IsAtEnd}
use Rattle.floor_script.specs.Run.{Ran, outcome_of}
use Rattle.floor_script.specs.Written.{Began}
use Rattle.floor_script.specs.declared.fault.RunFault.{RunFault}
use Rattle.floor_script.specs.declared.fault.RunFault.TheVariants as run

-- These are all the bytes that the reader had left, and it is at its end.
pub record IsInput (had has : Option (List ℕ)) (bytes : List ℕ) : Type 0 where
  pub read : Consumes had has bytes
  pub ended : IsAtEnd has

-- The input was read to its end, and all that it prints as a text was printed.
pub record RanInput (is_refused : Bool) (had has was is : Option (List ℕ)) : Type 0 where
  pub text : List ℕ
  pub input : IsInput had has text
  pub ran : Ran text is_refused was is

-- The input was read to its end, and a beginning was printed of what it prints as a text.
pub record BeganInput (had has was is : Option (List ℕ)) : Type 0 where
  pub text : List ℕ
  pub input : IsInput had has text
  pub began : Began was is (outcome_of text).printed

-- what a run leaves that ended by this fault: after a read fault nothing was printed, nor where memory ran out before the input's end
abbrev pub LeavesInput : RunFault → Option (List ℕ) → Option (List ℕ) → Option (List ℕ) → Option (List ℕ) → Type 0
LeavesInput run.Refused had has was is = RanInput true had has was is
LeavesInput run.CannotRead had has was is = Appends was is []
LeavesInput run.CannotWrite had has was is = BeganInput had has was is
LeavesInput run.Memory had has was is = Appends was is [] ⊎ BeganInput had has was is

-- What an exit status says: 0 that all was printed and nothing refused, 2 that something was, and 1 that the run broke off, with a beginning printed or nothing.
pub record Exits (status : ℕ) (had has was is : Option (List ℕ)) : Type 0 where
  pub ran : status ≡ 0 → RanInput false had has was is
  pub broken : status ≡ 1 → Appends was is [] ⊎ BeganInput had has was is
  pub refused : status ≡ 2 → RanInput true had has was is
  pub within : status ≤ 2
