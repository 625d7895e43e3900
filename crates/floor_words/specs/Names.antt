-- The names of faults.
use Rattle.std.specs.Prelude.{ℕ, List, codes}
use Rattle.floor_words.specs.declared.hexadecimal.HexadecimalFault.{HexadecimalFault}
use Rattle.floor_words.specs.declared.hexadecimal.HexadecimalFault.TheVariants.{BadHex, Memory}

-- the name of a fault of hexadecimal
abbrev pub name_of_hexadecimal_fault : HexadecimalFault → List ℕ
name_of_hexadecimal_fault BadHex = codes "BadHex"
name_of_hexadecimal_fault Memory = codes "Memory"
