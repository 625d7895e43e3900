-- What the numbers tell apart.
use Rattle.std.specs.Prelude.{◌≡◌}
use Rattle.floor_ffi.specs.Numbers.{number_of, told_by_number}
use Rattle.floor_ffi.specs.declared.outcome.Outcome.{Outcome}

-- two outcomes with one number are one, but that a configuration's want of memory counts as the hub's
abbrev pub NumbersTell : Type 0
NumbersTell = (one other : Outcome) → number_of one ≡ number_of other → told_by_number one ≡ told_by_number other
