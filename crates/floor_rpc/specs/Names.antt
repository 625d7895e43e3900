-- Names as JSON: of methods, of phases, and, as in RFC 8855, of statuses (section 5.2.5) and primitives (section 5.1).
use Rattle.std.specs.Prelude.{ℕ, List, codes}
use Rattle.json.specs.Json as json
use Rattle.json.specs.Json.{Json}
use Rattle.floor_message.specs.declared.primitive.Primitive.{Primitive}
use Rattle.floor_message.specs.declared.primitive.Primitive.TheVariants as primitive
use Rattle.floor_message.specs.declared.status.RequestStatus.{RequestStatus}
use Rattle.floor_message.specs.declared.status.RequestStatus.TheVariants.{Pending, Accepted, Granted, Denied, Cancelled, Released, Revoked}
use Rattle.floor_room.specs.Names.{phase_name}
use Rattle.floor_room.specs.declared.status.Phase.{Phase}
use Rattle.floor_rpc.specs.Methods.{name_of}
use Rattle.floor_rpc.specs.declared.method.Method.{Method}

abbrev pub method_json : Method → Json
method_json m = json.string (name_of m)

abbrev pub phase_json : Phase → Json
phase_json phase = json.string (phase_name phase)

abbrev pub status_name : RequestStatus → List ℕ
status_name Pending = codes "Pending"
status_name Accepted = codes "Accepted"
status_name Granted = codes "Granted"
status_name Denied = codes "Denied"
status_name Cancelled = codes "Cancelled"
status_name Released = codes "Released"
status_name Revoked = codes "Revoked"

abbrev pub status_json : RequestStatus → Json
status_json status = json.string (status_name status)

abbrev pub primitive_name : Primitive → List ℕ
primitive_name primitive.FloorRequest = codes "FloorRequest"
primitive_name primitive.FloorRelease = codes "FloorRelease"
primitive_name primitive.FloorRequestQuery = codes "FloorRequestQuery"
primitive_name primitive.FloorRequestStatus = codes "FloorRequestStatus"
primitive_name primitive.UserQuery = codes "UserQuery"
primitive_name primitive.UserStatus = codes "UserStatus"
primitive_name primitive.FloorQuery = codes "FloorQuery"
primitive_name primitive.FloorStatus = codes "FloorStatus"
primitive_name primitive.ChairAction = codes "ChairAction"
primitive_name primitive.ChairActionAck = codes "ChairActionAck"
primitive_name primitive.Hello = codes "Hello"
primitive_name primitive.HelloAck = codes "HelloAck"
primitive_name primitive.Error = codes "Error"

abbrev pub primitive_json : Primitive → Json
primitive_json p = json.string (primitive_name p)
