-- The numbers of the primitives (RFC 8855, section 5.1).
use Rattle.std.specs.Prelude.{ℕ, Option, Some, None, ◌==◌, if◌then◌else◌}
use Rattle.floor_message.specs.declared.primitive.Primitive.{Primitive}
use Rattle.floor_message.specs.declared.primitive.Primitive.TheVariants.{FloorRequest, FloorRelease, FloorRequestQuery, FloorRequestStatus, UserQuery, UserStatus, FloorQuery, FloorStatus, ChairAction, ChairActionAck, Hello, HelloAck, Error}

-- the number that a header tells a primitive by
abbrev pub primitive_number : Primitive → ℕ
primitive_number FloorRequest = 1
primitive_number FloorRelease = 2
primitive_number FloorRequestQuery = 3
primitive_number FloorRequestStatus = 4
primitive_number UserQuery = 5
primitive_number UserStatus = 6
primitive_number FloorQuery = 7
primitive_number FloorStatus = 8
primitive_number ChairAction = 9
primitive_number ChairActionAck = 10
primitive_number Hello = 11
primitive_number HelloAck = 12
primitive_number Error = 13

-- the primitive that has the number, where one has
abbrev pub primitive_of : ℕ → Option Primitive
primitive_of n =
    if n == 1 then Some FloorRequest
    else if n == 2 then Some FloorRelease
    else if n == 3 then Some FloorRequestQuery
    else if n == 4 then Some FloorRequestStatus
    else if n == 5 then Some UserQuery
    else if n == 6 then Some UserStatus
    else if n == 7 then Some FloorQuery
    else if n == 8 then Some FloorStatus
    else if n == 9 then Some ChairAction
    else if n == 10 then Some ChairActionAck
    else if n == 11 then Some Hello
    else if n == 12 then Some HelloAck
    else if n == 13 then Some Error
    else None
