-- What is written of a message from a client is of bytes.
use Rattle.std.proofs.Common.{ℕ, ◌≤◌, ◌<◌, List, [], ◌∷◌, ◌++◌, map, Option, Some, None, arith}
use Rattle.std.specs.Prelude.{IfSome}
use Rattle.floor_wire.specs.Bytes.{IsBytes, IsOfBytes}
use Rattle.floor_wire.specs.View.{attributes_of}
use Rattle.floor_message.specs.Written.{optional, number, octets, priority_attr, verdict_attr, status_of, overall_attrs, ask_attrs}
use Rattle.floor_message.specs.declared.verdicts.Verdict.{Verdict}
use Rattle.floor_message.specs.declared.verdicts.Verdict.TheVariants.{Accepted, Granted, Denied, Revoked}
use Rattle.floor_message.specs.declared.ask.Ask.TheVariants.{FloorRequest, ChairAction}
use Rattle.floor_message.proofs.Rooms.{bytes_append}

pub number_bytes : (kind : ℕ) (o : Option ℕ) → IsOfBytes (attributes_of (optional (number kind) o))
number_bytes kind None = tt
number_bytes kind (Some n) = (tt, tt)

pub floors_bytes : (floors : List ℕ) → IsOfBytes (attributes_of (map (number 2) floors))
floors_bytes [] = tt
floors_bytes (f ∷ fs) = (tt, floors_bytes fs)

text_bytes : (o : Option (List ℕ)) → IfSome o IsBytes → IsOfBytes (attributes_of (optional (octets 8) o))
text_bytes None h = tt
text_bytes (Some t) h = (h, tt)

status_small : (v : Verdict) → status_of v < 256
status_small Accepted = omega arith
status_small Granted = omega arith
status_small Denied = omega arith
status_small Revoked = omega arith

verdicts_bytes : (vs : List (ℕ × Verdict)) → IsOfBytes (attributes_of (map verdict_attr vs))
verdicts_bytes [] = tt
verdicts_bytes (v ∷ vs) = (((status_small v.1, omega arith), tt), verdicts_bytes vs)

overall_bytes : (request : ℕ) (reason : Option (List ℕ)) → IfSome reason IsBytes → IsOfBytes (attributes_of (overall_attrs request None reason))
overall_bytes request None h = tt
overall_bytes request (Some reason) h = ((h, tt), tt)

pub chair_action_bytes : (request : ℕ) (vs : List (ℕ × Verdict)) (reason : Option (List ℕ)) → IfSome reason IsBytes → IsOfBytes (attributes_of (ask_attrs (ChairAction request vs reason)))
chair_action_bytes request vs reason h = (bytes_append (overall_attrs request None reason) (map verdict_attr vs) (overall_bytes request reason h) (verdicts_bytes vs), tt)

pub request_bytes : (beneficiary : Option ℕ) (floors : List ℕ) (priority : ℕ) (info : Option (List ℕ)) → priority ≤ 4 → IfSome info IsBytes
    → IsOfBytes (attributes_of (ask_attrs (FloorRequest beneficiary floors priority info)))
request_bytes beneficiary floors priority info few text =
    let a = map (number 2) floors in
    let b = optional (number 1) beneficiary in
    let c = optional (octets 8) info in
    bytes_append (a ++ b ++ c) (priority_attr priority ∷ [])
    (bytes_append (a ++ b) c (bytes_append a b (floors_bytes floors) (number_bytes 1 beneficiary)) (text_bytes info text))
    ((omega (arith, few), omega arith), tt)
