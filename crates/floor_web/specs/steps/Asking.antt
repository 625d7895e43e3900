-- What the steps of reading a request give.
use Rattle.std.specs.Prelude.{ℕ, List, [], ◌∷◌, Option, Some, None, Result, Ok, Err}
use Rattle.std.specs.Option.{option_copied}
use denote.Ref.{Bor}
use Rattle.floor_web.specs.Fields.{only}
use Rattle.floor_web.specs.declared.refusal.Refusal.{Refusal}
use Rattle.floor_web.specs.declared.refusal.Refusal.TheVariants.{BadRequest}

-- the value behind the reference
abbrev pub shown_value : Result (Option (Bor (List ℕ))) Refusal → Result (Option (List ℕ)) Refusal
shown_value (Ok o) = Ok (option_copied o)
shown_value (Err e) = Err e

-- the one value, where one was found before these
abbrev pub only_with : Option (List ℕ) → List (List ℕ) → Result (Option (List ℕ)) Refusal
only_with None values = only values
only_with (Some v) [] = Ok (Some v)
only_with (Some v) (w ∷ more) = Err BadRequest
