-- The numbers of the statuses of a floor request (RFC 8855, section 5.2.5).
use Rattle.std.specs.Prelude.{ℕ}
use Rattle.floor_message.specs.declared.status.RequestStatus.{RequestStatus}
use Rattle.floor_message.specs.declared.status.RequestStatus.TheVariants.{Pending, Accepted, Granted, Denied, Cancelled, Released, Revoked}

-- the number that tells a status (section 5.2.5)
abbrev pub status_number : RequestStatus → ℕ
status_number Pending = 1
status_number Accepted = 2
status_number Granted = 3
status_number Denied = 4
status_number Cancelled = 5
status_number Released = 6
status_number Revoked = 7
