use Rattle.std.proofs.Common.{◌≡◌, bytes_eq, drop, map, string_bytes}
use Rattle.std.specs.List.{list_any}
use Rattle.floor_web.proofs.origins.lists.Given as goal

abbrev pub invariant-loop-allowed : goal.invariant-loop-allowed
invariant-loop-allowed l =
    list_any (λ s. bytes_eq s l.origin) (map string_bytes l.listed) ≡ list_any (λ s. bytes_eq s l.origin) (map string_bytes (drop l.allowed-index l.listed))
