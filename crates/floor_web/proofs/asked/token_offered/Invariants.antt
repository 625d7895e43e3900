use Rattle.std.proofs.Common.{◌≡◌, drop}
use Rattle.websocket.specs.Headers.{fields_of}
use Rattle.floor_web.specs.Asked.{token_of}
use Rattle.floor_web.specs.Fields.{values_of}
use Rattle.floor_web.proofs.asked.token_offered.Given as goal

abbrev pub invariant-loop-span : goal.invariant-loop-span
invariant-loop-span l =
    token_of (values_of (fields_of l.head l.spans) l.name) ≡ token_of (values_of (fields_of l.head (drop l.span-index l.spans)) l.name)
