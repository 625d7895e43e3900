use Rattle.std.proofs.Common.{◌≡◌, None, drop}
use Rattle.std.specs.Option.{option_copied}
use Rattle.websocket.specs.Headers.{fields_of}
use Rattle.floor_web.specs.Fields.{last_behind, values_of}
use Rattle.floor_web.proofs.fields.last.Given as goal

abbrev pub invariant-loop-span : goal.invariant-loop-span
invariant-loop-span l =
    last_behind None (values_of (fields_of l.head l.spans) l.name) ≡ last_behind (option_copied l.value) (values_of (fields_of l.head (drop l.span-index l.spans)) l.name)
