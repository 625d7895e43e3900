-- The numbers of a line.
use Rattle.std.specs.Prelude.{◌≡◌, ◌⊎◌, ◌==◌, ◌^◌, ℕ, Option, Some, None, Result, Ok, Err, List, if◌then◌else◌}
use Rattle.floor_words.specs.Words.{number}
use Rattle.floor_acts.specs.declared.fault.ActFault.{ActFault}
use Rattle.floor_acts.specs.declared.fault.ActFault.TheVariants.{BadNumber, Memory}

-- what follows from a part of a line: where the part is bad its fault counts, and nothing behind it
abbrev pub and_then : {A B : Type 0} → Result A ActFault → (A → Result B ActFault) → Result B ActFault
and_then (Ok part) next = next part
and_then (Err fault) next = Err fault

abbrev pub number_or_fault : Option ℕ → Result ℕ ActFault
number_or_fault (Some n) = Ok n
number_or_fault None = Err BadNumber

-- a number below the limit
abbrev pub number_of : ℕ → List ℕ → Result ℕ ActFault
number_of limit word = number_or_fault (number limit word)

-- a number of 16 bits, where there is a word
abbrev pub number_where : Option (List ℕ) → Result (Option ℕ) ActFault
number_where None = Ok None
number_where (Some word) = and_then (number_of (2 ^ 16) word) (λ n. Ok (Some n))

-- a port isn't 0
abbrev pub port_or_fault : Option ℕ → Result (Option ℕ) ActFault
port_or_fault None = Ok None
port_or_fault (Some port) = if port == 0 then Err BadNumber else Ok (Some port)

-- the port, where there is a word
abbrev pub port_where : Option (List ℕ) → Result (Option ℕ) ActFault
port_where word = and_then (number_where word) port_or_fault

-- what is read is what is meant, or memory was refused
abbrev pub Reads : {A : Type 0} → Result A ActFault → Result A ActFault → Type 0
Reads meant result = (result ≡ meant) ⊎ (result ≡ Err Memory)
