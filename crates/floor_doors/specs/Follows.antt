-- What follows for somebody at a door.
use Rattle.std.specs.Prelude.{ℕ, ◌-◌, Bool, true, false, Result, Ok, Err}
use Rattle.floor_proxy.specs.declared.header.ProxyRead.{ProxyRead}
use Rattle.floor_proxy.specs.declared.header.ProxyRead.TheVariants.{More, Local, Named}
use Rattle.floor_proxy.specs.declared.refusal.ProxyRefusal.{ProxyRefusal}
use Rattle.floor_doors.specs.declared.newcomer.Verdict.{Verdict}
use Rattle.floor_doors.specs.declared.newcomer.Verdict.TheVariants.{Wait, Enter, LetGo, Refuse}
use Rattle.floor_doors.specs.declared.refusal.DoorRefusal.TheVariants.{NoHeader, ByHeader}

-- of a header of which so many bytes came before: more have to come; who only looks is let go; who is named comes in, behind the rest of the header; others don't
abbrev pub follows : ℕ → Result ProxyRead ProxyRefusal → Verdict
follows before (Ok More) = Wait
follows before (Ok Local) = LetGo
follows before (Ok (Named conference user len)) = Enter conference user (len - before)
follows before (Err refusal) = Refuse (ByHeader refusal)

-- once the time is over nobody is waited for any more
abbrev pub by_then : Bool → Verdict
by_then true = Refuse NoHeader
by_then false = Wait
