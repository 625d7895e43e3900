use Rattle.std.proofs.Common.{◌≡◌, drop}
use Rattle.std.specs.Option.{option_copied}
use Rattle.websocket.specs.Headers.{fields_of}
use Rattle.floor_web.specs.Fields as spec
use Rattle.floor_web.specs.steps.Asking.{only_with}
use Rattle.floor_web.proofs.fields.only.Given as goal

abbrev pub invariant-loop-span : goal.invariant-loop-span
invariant-loop-span l =
    spec.only (spec.values_of (fields_of l.head l.spans) l.name) ≡ only_with (option_copied l.found) (spec.values_of (fields_of l.head (drop l.span-index l.spans)) l.name)
