-- The Transaction IDs of notices (RFC 8855, section 8.2).
use Rattle.std.specs.Prelude.{◌≡◌, ℕ, ◌<◌, true, false, Option, Some, None}
use Rattle.floor_datagram.specs.Numbering.{is_newer}
use Rattle.floor_datagram.specs.Notices.{is_near}

-- the ID of the request that was taken last, if one was
abbrev pub IsLastId : Option ℕ → Type 0
IsLastId None = Unit {0}
IsLastId (Some last) = last < 65536

-- an ID of a notice's own: not 0, newer than that of the notice before, and not 0 to 1,023 steps ahead of the last request's
pub record Own (last : Option ℕ) (before id : ℕ) : Type 0 where
  pub some : 0 < id
  pub fits : id < 65536
  pub newer : is_newer id before ≡ true
  pub far : is_near last id ≡ false
