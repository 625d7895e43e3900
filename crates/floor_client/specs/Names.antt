-- The names of refusals.
use Rattle.std.specs.Prelude.{ℕ, List, codes}
use Rattle.floor_client.specs.declared.client.AskRefusal.{AskRefusal}
use Rattle.floor_client.specs.declared.client.AskRefusal.TheVariants.{NoTransaction, Memory}

-- the name of a refusal
abbrev pub name_of : AskRefusal → List ℕ
name_of NoTransaction = codes "NoTransaction"
name_of Memory = codes "Memory"
