use Rattle.std.proofs.Common.{◌≡◌, map, take}
use Rattle.std.specs.Prelude.{◌==◌, filter}
use Rattle.std.specs.List.{list_any}
use Rattle.floor_message.specs.Written.{info_attr}
use Rattle.floor_message.specs.steps.Writing.{with_attrs}
use Rattle.floor_message.proofs.format.floor_request_information.put_infos_on.Given as goal

abbrev pub invariant-loop-shared : goal.invariant-loop-shared
invariant-loop-shared l =
    l.out ≡ with_attrs l.initial.out (map info_attr (filter (λ i. list_any (λ f. f.0 == l.floor) i.floors) (take l.shared-index l.infos)))
