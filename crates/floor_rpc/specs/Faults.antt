-- The names of what is wrong with a parameter.
use Rattle.std.specs.Prelude.{ℕ, List, codes}
use Rattle.floor_rpc.specs.declared.fault.Why.{Why}
use Rattle.floor_rpc.specs.declared.fault.Why.TheVariants.{Missing, Unknown, WrongType, OutOfRange, Unnamed}

abbrev pub why_name : Why → List ℕ
why_name Missing = codes "Missing"
why_name Unknown = codes "Unknown"
why_name WrongType = codes "WrongType"
why_name OutOfRange = codes "OutOfRange"
why_name Unnamed = codes "Unnamed"
