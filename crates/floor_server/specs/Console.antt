-- What the next read of the administrator's lines asks for.
use Rattle.std.specs.Prelude.{◌≡◌, ℕ, List, [], ◌∷◌, Result, Ok, Err}
use Rattle.std.specs.IoError.{error_kind}
use Rattle.std.specs.declared.io.Error.{Error}
use Rattle.std.specs.declared.io.ErrorKind.{ErrorKind}
use Rattle.std.specs.declared.io.ErrorKind.TheVariants as kind
use Rattle.floor_words.specs.Lines.{first_line}
use Rattle.floor_console.specs.Command.{Reads, command_of}
use Rattle.floor_console.specs.declared.command.Command.{Command}
use Rattle.floor_console.specs.declared.command.Command.TheVariants.{Stop}
use Rattle.floor_console.specs.declared.command.ConsoleFault.{ConsoleFault}
use Rattle.floor_listen.specs.declared.ending.ServerFault.{ServerFault}
use Rattle.floor_listen.specs.declared.ending.ServerFault.TheVariants.{Memory}

-- a read that fails stops the server, and want of memory ends it
abbrev pub after_failure : ErrorKind → Result (Result Command ConsoleFault) ServerFault
after_failure kind.OutOfMemory = Err Memory
after_failure _ = Ok (Ok Stop)

-- what follows from a read of this text: a stop where the input has ended, else what the line says
abbrev pub IsAskedBy : Result ℕ Error → List ℕ → Result (Result Command ConsoleFault) ServerFault → Type 0
IsAskedBy (Ok count) [] result = result ≡ Ok (Ok Stop)
IsAskedBy (Ok count) (c ∷ rest) (Ok command) = Reads (command_of (first_line (c ∷ rest))) command
IsAskedBy (Ok count) (c ∷ rest) (Err fault) = ⊥
IsAskedBy (Err error) text result = result ≡ after_failure (error_kind error)
