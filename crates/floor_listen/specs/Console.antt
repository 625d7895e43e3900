-- What the console does after a read.
use Rattle.std.specs.Prelude.{◌≡◌, ℕ, List, [], ◌∷◌, Result, Ok, Err}
use Rattle.std.specs.IoError.{error_kind}
use Rattle.std.specs.declared.io.Error.{Error}
use Rattle.std.specs.declared.io.ErrorKind.{ErrorKind}
use Rattle.std.specs.declared.io.ErrorKind.TheVariants.{OutOfMemory}
use Rattle.floor_words.specs.Lines.{first_line}
use Rattle.floor_listen.specs.declared.console.Next.{Next}
use Rattle.floor_listen.specs.declared.console.Next.TheVariants.{Line, Stop, Memory}

-- a read that fails stops the server, as the end of the input does; want of memory is told apart
abbrev pub after_failure : ErrorKind → Next
after_failure OutOfMemory = Memory
after_failure _ = Stop

-- what follows from a read of this text: nothing was read where the input has ended, else the line is carried out
abbrev pub IsNext : Result ℕ Error → List ℕ → Next → Type 0
IsNext (Ok count) [] next = next ≡ Stop
IsNext (Ok count) (c ∷ rest) (Line line) = line.now ≡ first_line (c ∷ rest)
IsNext (Ok count) (c ∷ rest) Stop = ⊥
IsNext (Ok count) (c ∷ rest) Memory = ⊥
IsNext (Err error) text next = next ≡ after_failure (error_kind error)
