-- The numbers of the error codes (RFC 8855, section 5.2.6).
use Rattle.std.specs.Prelude.{ℕ}
use Rattle.floor_message.specs.declared.code.ErrorCode.{ErrorCode}
use Rattle.floor_message.specs.declared.code.ErrorCode.TheVariants.{ConferenceDoesNotExist, UserDoesNotExist, UnknownPrimitive, UnknownMandatoryAttribute, UnauthorizedOperation, InvalidFloorId, FloorRequestIdDoesNotExist, MaximumFloorRequestsReached, UseTls, UnableToParseMessage, UseDtls, UnsupportedVersion, IncorrectMessageLength, GenericError}

-- the number that ERROR-CODE tells an error code by
abbrev pub code_number : ErrorCode → ℕ
code_number ConferenceDoesNotExist = 1
code_number UserDoesNotExist = 2
code_number UnknownPrimitive = 3
code_number UnknownMandatoryAttribute = 4
code_number UnauthorizedOperation = 5
code_number InvalidFloorId = 6
code_number FloorRequestIdDoesNotExist = 7
code_number MaximumFloorRequestsReached = 8
code_number UseTls = 9
code_number UnableToParseMessage = 10
code_number UseDtls = 11
code_number UnsupportedVersion = 12
code_number IncorrectMessageLength = 13
code_number GenericError = 14
