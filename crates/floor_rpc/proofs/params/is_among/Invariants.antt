use Rattle.std.proofs.Common.{◌≡◌, drop, map}
use Rattle.std.specs.List.{list_any}
use Rattle.std.specs.Str.{bytes_eq}
use Rattle.floor_rpc.proofs.params.is_among.Given as goal

abbrev pub invariant-loop-name : goal.invariant-loop-name
invariant-loop-name l =
    list_any (λ name. bytes_eq name l.key) (map (λ name. name.now) (drop l.name-index l.names))
    ≡ list_any (λ name. bytes_eq name l.key) (map (λ name. name.now) l.names)
