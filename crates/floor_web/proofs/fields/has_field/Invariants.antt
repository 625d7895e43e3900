use Rattle.std.proofs.Common.{◌≡◌, drop}
use Rattle.websocket.specs.Headers.{fields_of}
use Rattle.floor_web.specs.Asked.{has_field}
use Rattle.floor_web.proofs.fields.has_field.Given as goal

abbrev pub invariant-loop-span : goal.invariant-loop-span
invariant-loop-span l = has_field (fields_of l.head l.spans) l.name ≡ has_field (fields_of l.head (drop l.span-index l.spans)) l.name
