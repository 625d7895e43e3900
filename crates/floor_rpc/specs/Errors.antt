-- The errors: each has a number and a name.
use Rattle.std.specs.Prelude.{ℕ, ℤ, pos, negsuc, List, [], ◌∷◌, codes}
use Rattle.floor_rpc.specs.declared.error.ErrorName.{ErrorName}
use Rattle.floor_rpc.specs.declared.error.ErrorName.TheVariants.{NotJson, NotRequest, NoMethod, BadParams, NoConference, Ended, Forgotten, Running, Broken, Draining, Forbidden, Full, TooLong, Memory, Used, JournalFull, NoUser, NoMember, NoFloor, NoRequest, Unauthorized, TooManyRequests, NotNow, Removed, Watching, BadPlace, OutOfRange, DoubleUser, DoubleFloor, DoubleConference, DoublePort, UnknownChair, Syntax, MissingKey, WrongType, CannotListen, CannotRead, CannotKeep, Cut, BadCount}

-- all of them
abbrev pub errors : List ErrorName
errors =
    NotJson ∷ NotRequest ∷ NoMethod ∷ BadParams ∷ NoConference ∷ Ended ∷
    Forgotten ∷ Running ∷ Broken ∷ Draining ∷ Forbidden ∷ Full ∷
    TooLong ∷ Memory ∷ Used ∷ JournalFull ∷ NoUser ∷ NoMember ∷
    NoFloor ∷ NoRequest ∷ Unauthorized ∷ TooManyRequests ∷ NotNow ∷ Removed ∷
    Watching ∷ BadPlace ∷ OutOfRange ∷ DoubleUser ∷ DoubleFloor ∷ DoubleConference ∷
    DoublePort ∷ UnknownChair ∷ Syntax ∷ MissingKey ∷ WrongType ∷ CannotListen ∷
    CannotRead ∷ CannotKeep ∷ Cut ∷ BadCount ∷ []

-- the number: JSON-RPC's own are below 0, the server's from 1 on, and none is ever given to another name
abbrev pub number_of : ErrorName → ℤ
number_of NotJson = negsuc 32699
number_of NotRequest = negsuc 32599
number_of NoMethod = negsuc 32600
number_of BadParams = negsuc 32601
number_of NoConference = pos 1
number_of Ended = pos 2
number_of Forgotten = pos 3
number_of Running = pos 4
number_of Broken = pos 5
number_of Draining = pos 6
number_of Forbidden = pos 7
number_of Full = pos 8
number_of TooLong = pos 9
number_of Memory = pos 10
number_of Used = pos 11
number_of JournalFull = pos 12
number_of NoUser = pos 13
number_of NoMember = pos 14
number_of NoFloor = pos 15
number_of NoRequest = pos 16
number_of Unauthorized = pos 17
number_of TooManyRequests = pos 18
number_of NotNow = pos 19
number_of Removed = pos 20
number_of Watching = pos 21
number_of BadPlace = pos 22
number_of OutOfRange = pos 23
number_of DoubleUser = pos 24
number_of DoubleFloor = pos 25
number_of DoubleConference = pos 26
number_of DoublePort = pos 27
number_of UnknownChair = pos 28
number_of Syntax = pos 29
number_of MissingKey = pos 30
number_of WrongType = pos 31
number_of CannotListen = pos 32
number_of CannotRead = pos 33
number_of CannotKeep = pos 34
number_of Cut = pos 35
number_of BadCount = pos 36

-- the name, which is the error's message
abbrev pub name_of : ErrorName → List ℕ
name_of NotJson = codes "Parse error"
name_of NotRequest = codes "Invalid Request"
name_of NoMethod = codes "Method not found"
name_of BadParams = codes "Invalid params"
name_of NoConference = codes "NoConference"
name_of Ended = codes "Ended"
name_of Forgotten = codes "Forgotten"
name_of Running = codes "Running"
name_of Broken = codes "Broken"
name_of Draining = codes "Draining"
name_of Forbidden = codes "Forbidden"
name_of Full = codes "Full"
name_of TooLong = codes "TooLong"
name_of Memory = codes "Memory"
name_of Used = codes "Used"
name_of JournalFull = codes "JournalFull"
name_of NoUser = codes "NoUser"
name_of NoMember = codes "NoMember"
name_of NoFloor = codes "NoFloor"
name_of NoRequest = codes "NoRequest"
name_of Unauthorized = codes "Unauthorized"
name_of TooManyRequests = codes "TooManyRequests"
name_of NotNow = codes "NotNow"
name_of Removed = codes "Removed"
name_of Watching = codes "Watching"
name_of BadPlace = codes "BadPlace"
name_of OutOfRange = codes "OutOfRange"
name_of DoubleUser = codes "DoubleUser"
name_of DoubleFloor = codes "DoubleFloor"
name_of DoubleConference = codes "DoubleConference"
name_of DoublePort = codes "DoublePort"
name_of UnknownChair = codes "UnknownChair"
name_of Syntax = codes "Syntax"
name_of MissingKey = codes "MissingKey"
name_of WrongType = codes "WrongType"
name_of CannotListen = codes "CannotListen"
name_of CannotRead = codes "CannotRead"
name_of CannotKeep = codes "CannotKeep"
name_of Cut = codes "Cut"
name_of BadCount = codes "BadCount"
