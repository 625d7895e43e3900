-- Which Transaction ID is newer (RFC 8855, section 8.1).
use Rattle.std.specs.Prelude.{ℕ, ◌+◌, ◌-◌, ◌%◌, ◌==◌, Bool, ◌&&◌, nat_lt, Option, Some, None, if◌then◌else◌}
use Rattle.floor_datagram.specs.declared.numbering.Age.{Age}
use Rattle.floor_datagram.specs.declared.numbering.Age.TheVariants.{Copy, Older, Newer}

-- how many steps lead from one ID up to another, around 65,535
abbrev pub steps_to : (id from : ℕ) → ℕ
steps_to id from = (id + 65536 - from) % 65536

-- 1 to 32,767 steps
abbrev pub is_newer : (id last : ℕ) → Bool
is_newer id last = nat_lt 0 (steps_to id last) && nat_lt (steps_to id last) 32768

-- a copy, if it is the ID that was taken last; newer, if it is, or none was taken; else older
abbrev pub age_of : (last : Option ℕ) → ℕ → Age
age_of None id = Newer
age_of (Some last) id = if id == last then Copy else if is_newer id last then Newer else Older
