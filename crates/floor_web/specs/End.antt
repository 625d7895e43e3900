-- Why a relay ended, and the code that its WebSocket is closed by (RFC 6455, section 7.4.1).
use Rattle.std.specs.Prelude.{ℕ, Bool, true, false, ◌==◌, List, codes, Option, Some, None, if◌then◌else◌}
use Rattle.websocket.specs.declared.protocol.frame.coding.CloseCode.{CloseCode}
use Rattle.websocket.specs.declared.protocol.frame.coding.CloseCode.TheVariants as Code
use Rattle.websocket.specs.CloseCode.{close_code_number}
use Rattle.websocket.specs.declared.error.Error.{Error}
use Rattle.websocket.specs.declared.error.Error.TheVariants as Cause
use Rattle.floor_web.specs.declared.end.End.{End}
use Rattle.floor_web.specs.declared.end.End.TheVariants.{Closed, GoingAway, Gone, ServerGone, NoServer, Refused, Broken, Fragment, Text, NoUtf8, NoMessage, TooLong, Memory}

-- the name of an end
abbrev pub name_of : End → List ℕ
name_of Closed = codes "Closed"
name_of GoingAway = codes "GoingAway"
name_of Gone = codes "Gone"
name_of ServerGone = codes "ServerGone"
name_of NoServer = codes "NoServer"
name_of Refused = codes "Refused"
name_of Broken = codes "Broken"
name_of Fragment = codes "Fragment"
name_of Text = codes "Text"
name_of NoUtf8 = codes "NoUtf8"
name_of NoMessage = codes "NoMessage"
name_of TooLong = codes "TooLong"
name_of Memory = codes "Memory"

-- the code of the close that the browser is sent, if it is sent one
abbrev pub code_of : End → Option CloseCode
code_of Closed = None
code_of GoingAway = None
code_of Gone = None
code_of ServerGone = Some Code.Away
code_of NoServer = Some (Code.Library 4404)
code_of Refused = Some (Code.Library 4403)
code_of Broken = Some Code.Protocol
code_of Fragment = Some Code.Protocol
code_of Text = Some Code.Unsupported
code_of NoUtf8 = Some Code.Invalid
code_of NoMessage = Some Code.Invalid
code_of TooLong = Some Code.Size
code_of Memory = Some Code.Error

-- what an error of the WebSocket is to the relay
abbrev pub end_of_error : Error → End
end_of_error Cause.ConnectionClosed = Broken
end_of_error Cause.AlreadyClosed = Broken
end_of_error (Cause.Capacity c) = TooLong
end_of_error (Cause.Protocol c) = Broken
end_of_error Cause.Utf8 = NoUtf8
end_of_error Cause.OutOfMemory = Memory

-- by 1000 the page says that it is done; by any other code the browser goes away, as by 1001 where a page is loaded anew
abbrev pub end_of_code : CloseCode → End
end_of_code code = if close_code_number code == 1000 then Closed else GoingAway

-- the end that a browser's close is: without a code the page says that it is done, too
abbrev pub end_of_close : Option (CloseCode × List ℕ) → End
end_of_close None = Closed
end_of_close (Some p) = end_of_code p.0

-- whether the participant leaves by it: only where the page said so
abbrev pub is_leave : End → Bool
is_leave Closed = true
is_leave GoingAway = false
is_leave Gone = false
is_leave ServerGone = false
is_leave NoServer = false
is_leave Refused = false
is_leave Broken = false
is_leave Fragment = false
is_leave Text = false
is_leave NoUtf8 = false
is_leave NoMessage = false
is_leave TooLong = false
is_leave Memory = false
