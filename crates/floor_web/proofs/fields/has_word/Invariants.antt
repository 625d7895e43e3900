use Rattle.std.proofs.Common.{◌≡◌, drop}
use Rattle.websocket.specs.Headers.{fields_of}
use Rattle.floor_web.specs.Fields as spec
use Rattle.floor_web.proofs.fields.has_word.Given as goal

abbrev pub invariant-loop-span : goal.invariant-loop-span
invariant-loop-span l =
    spec.has_word (spec.values_of (fields_of l.head l.spans) l.name) l.word ≡ spec.has_word (spec.values_of (fields_of l.head (drop l.span-index l.spans)) l.name) l.word
