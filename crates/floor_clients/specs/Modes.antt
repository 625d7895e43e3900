-- What a client may call.
use Rattle.std.specs.Prelude.{Bool, true, false, not, ◌&&◌, Option, Some, None, if◌then◌else◌}
use Rattle.floor_rpc.specs.CallsWritten.{method_of}
use Rattle.floor_rpc.specs.Methods.{is_observing}
use Rattle.floor_rpc.specs.declared.call.Call.{Call}
use Rattle.floor_rpc.specs.declared.error.ErrorName.{ErrorName}
use Rattle.floor_rpc.specs.declared.error.ErrorName.TheVariants.{Draining, Forbidden}
use Rattle.floor_rpc.specs.declared.method.Method.{Method}
use Rattle.floor_rpc.specs.declared.method.Method.TheVariants.{ConferenceOpen}
use Rattle.floor_clients.specs.declared.mode.Mode.{Mode}
use Rattle.floor_clients.specs.declared.mode.Mode.TheVariants.{Control, Observer}

-- an observer calls what changes nothing alone
abbrev pub is_forbidden : Mode → Method → Bool
is_forbidden Control method = false
is_forbidden Observer method = not (is_observing method)

-- by it a conference is opened
abbrev pub opens : Method → Bool
opens ConferenceOpen = true
opens method = false

-- why a call isn't carried out, whatever it is about: it is forbidden, or opens a conference while the server drains
abbrev pub refusal_of : Mode → Bool → Call → Option ErrorName
refusal_of mode draining call =
    if is_forbidden mode (method_of call) then Some Forbidden
    else if draining && opens (method_of call) then Some Draining
    else None
