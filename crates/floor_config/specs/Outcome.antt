-- What a definition finds, a value or the first fault, and what a call answers of it.
use Rattle.std.specs.Prelude.{◌≡◌, Result, Ok, Err}
use Rattle.floor_config.specs.declared.fault.ConfigFault.{ConfigFault}
use Rattle.floor_config.specs.declared.fault.ConfigFault.TheVariants.{Memory}

-- the second step at the value of the first, or the first one's fault
infixl 10 ◌>>=◌
abbrev pub ◌>>=◌ : {A B : Type 0} → Result A ConfigFault → (A → Result B ConfigFault) → Result B ConfigFault
(Ok x) >>= next = next x
(Err fault) >>= next = Err fault

-- the fault is what was found, or memory was refused
abbrev pub Fails : {A : Type 0} → ConfigFault → Result A ConfigFault → Type 0
Fails Memory found = Unit {0}
Fails fault found = found ≡ Err fault

-- the call's value, seen by `view`, is what was found, and so is its fault, unless memory was refused
abbrev pub Gives : {X A : Type 0} → (X → A) → Result X ConfigFault → Result A ConfigFault → Type 0
Gives view (Ok x) found = found ≡ Ok (view x)
Gives view (Err fault) found = Fails fault found
