-- How a program ends whose words ask for nothing to be served or checked.
use Rattle.std.specs.Prelude.{◌≡◌, ◌⊎◌}
use Rattle.floor_listen.specs.declared.ending.Ending.{Ending}
use Rattle.floor_listen.specs.declared.ending.Ending.TheVariants as ending
use Rattle.floor_listen.specs.declared.ending.ServerFault.TheVariants.{CannotWrite, Memory}
use Rattle.floor_server.specs.declared.words.WordsFault.{WordsFault}
use Rattle.floor_server.specs.declared.words.WordsFault.TheVariants as words

-- the help that they ask for is printed, or it can't be written; or they are refused; or memory was
abbrev pub IsEndingOf : WordsFault → Ending → Type 0
IsEndingOf (words.Help text) result = (result ≡ ending.InOrder) ⊎ (result ≡ ending.Fault CannotWrite)
IsEndingOf (words.Refused text) result = result ≡ ending.Refused
IsEndingOf words.Memory result = result ≡ ending.Fault Memory
