-- The names of refusals.
use Rattle.std.specs.Prelude.{ℕ, List, codes}
use Rattle.floor_proxy.specs.declared.refusal.ProxyRefusal.{ProxyRefusal}
use Rattle.floor_proxy.specs.declared.refusal.ProxyRefusal.TheVariants.{BadHeader, NoCertificate, NotVerified, NoName, BadName}

-- the name of a refusal, in ASCII
abbrev pub name_of : ProxyRefusal → List ℕ
name_of BadHeader = codes "BadHeader"
name_of NoCertificate = codes "NoCertificate"
name_of NotVerified = codes "NotVerified"
name_of NoName = codes "NoName"
name_of BadName = codes "BadName"
