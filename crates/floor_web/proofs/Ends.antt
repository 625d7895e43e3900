-- Whether a relay has ended.
use Rattle.std.proofs.Common.{◌≡◌, false, Option, None, Some, refl}
use Rattle.std.specs.Prelude.{is_some}
use Rattle.floor_web.specs.declared.end.End.{End}

pub none_of : (e : Option End) → is_some e ≡ false → e ≡ None
none_of None is = refl
none_of (Some e) is = absurd (cc is)
