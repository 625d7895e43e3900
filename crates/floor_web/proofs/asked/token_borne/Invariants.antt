use Rattle.std.proofs.Common.{◌≡◌, drop}
use Rattle.websocket.specs.Headers.{fields_of}
use Rattle.floor_web.specs.Asked.{bearer_of}
use Rattle.floor_web.specs.Fields.{values_of}
use Rattle.floor_web.proofs.asked.token_borne.Given as goal

abbrev pub invariant-loop-span : goal.invariant-loop-span
invariant-loop-span l =
    bearer_of (values_of (fields_of l.head l.spans) l.name) ≡ bearer_of (values_of (fields_of l.head (drop l.span-index l.spans)) l.name)
