-- The words in front of a command.
use Rattle.std.specs.Prelude.{ℕ, ◌==◌, if◌then◌else◌, Bool, false, bytes_eq, codes, List, [], ◌∷◌}
use Rattle.floorctl.specs.declared.options.Leading.{Leading}
use Rattle.floorctl.specs.declared.options.Leading.TheVariants.{Json, Socket, Unknown, Command}

-- it begins with `-`
abbrev pub is_option : List ℕ → Bool
is_option [] = false
is_option (b ∷ bytes) = b == 45

-- what a word says: what begins with `-` and is neither option is none, and any other word begins the command
abbrev pub leading_of : List ℕ → Leading
leading_of word =
    if bytes_eq word (codes "--json") then Json
    else if bytes_eq word (codes "--socket") then Socket
    else if is_option word then Unknown
    else Command
