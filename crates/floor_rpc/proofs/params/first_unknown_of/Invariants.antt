use Rattle.std.proofs.Common.{◌≡◌, drop, map, not}
use Rattle.std.specs.List.{find, list_any}
use Rattle.std.specs.Str.{bytes_eq}
use Rattle.json.specs.Strict.{keys}
use Rattle.json.specs.Value.{members_view}
use Rattle.floor_rpc.proofs.params.first_unknown_of.Given as goal

abbrev pub invariant-loop-member : goal.invariant-loop-member
invariant-loop-member l =
    find (λ key. not (list_any (λ name. bytes_eq name key) (map (λ name. name.now) l.names))) (keys (members_view (drop l.member-index l.member-items)))
    ≡ find (λ key. not (list_any (λ name. bytes_eq name key) (map (λ name. name.now) l.names))) (keys (members_view l.member-items))
