-- What a line of a program is (JSON-RPC 2.0).
use Rattle.std.specs.Prelude.{◌≡◌, ◌≤◌, ◌<◌, ◌⊎◌, ◌&&◌, ℕ, Bool, true, false, nat_le, is_none, unwrap_or, Option, Some, None, Result, Ok, Err, List, [], ◌∷◌, length, codes, if◌then◌else◌}
use Rattle.std.specs.List.{find}
use Rattle.std.specs.Str.{IsUtf8, bytes_eq}
use Rattle.json.specs.Json as json
use Rattle.json.specs.Json.{Json, document, no_members}
use Rattle.json.specs.Find.{as_str, get, get_item}
use Rattle.json.specs.Strict.{HasUniqueKeys}
use Rattle.floor_rpc.specs.Calls.{call_of}
use Rattle.floor_rpc.specs.Methods.{methods, name_of}
use Rattle.floor_rpc.specs.Params.{and_then, first_unknown}
use Rattle.floor_rpc.specs.declared.call.Call.{Call}
use Rattle.floor_rpc.specs.declared.fault.RequestFault.{RequestFault}
use Rattle.floor_rpc.specs.declared.fault.RequestFault.TheVariants.{TooLong, NotJson, NotRequest, NoMethod, BadParam, Memory}
use Rattle.floor_rpc.specs.declared.fault.Why.TheVariants.{Unnamed}
use Rattle.floor_rpc.specs.declared.id.Id.{Id}
use Rattle.floor_rpc.specs.declared.id.Id.TheVariants.{Null, Number, Text}
use Rattle.floor_rpc.specs.declared.method.Method.{Method}
use Rattle.floor_rpc.specs.declared.request.Received.{Received}

-- how many bytes a line has at most, without its line feed
abbrev pub max_line : ℕ
max_line = 1048576

-- how many bytes the text of an id has at most
abbrev pub max_id : ℕ
max_id = 64

abbrev pub if_short : List ℕ → Id → Result Id RequestFault
if_short text id = if nat_le (length text) max_id then Ok id else Err NotRequest

-- an id: a number or a text that isn't too long, or `null`
abbrev pub id_in : Json → Result Id RequestFault
id_in json.null = Ok Null
id_in (json.boolean b) = Err NotRequest
id_in (json.number s) = if_short s (Number s)
id_in (json.string s) = if_short s (Text s)
id_in (json.array js) = Err NotRequest
id_in (json.object ms) = Err NotRequest

abbrev pub id_where : Option Json → Result (Option Id) RequestFault
id_where (Some j) = and_then (id_in j) (λ id. Ok (Some id))
id_where None = Ok None

-- the id of a request, which is an object
abbrev pub id_of : Json → Result (Option Id) RequestFault
id_of json.null = Err NotRequest
id_of (json.boolean b) = Err NotRequest
id_of (json.number s) = Err NotRequest
id_of (json.string s) = Err NotRequest
id_of (json.array js) = Err NotRequest
id_of (json.object ms) = id_where (get (codes "id") (json.object ms))

abbrev pub is_version : Option (List ℕ) → Bool
is_version (Some text) = bytes_eq text (codes "2.0")
is_version None = false

-- a request is of the version 2.0, or doesn't say of which
abbrev pub may_be_version : Option Json → Bool
may_be_version (Some j) = is_version (as_str j)
may_be_version None = true

abbrev pub known_method : Option Method → Result Method RequestFault
known_method (Some m) = Ok m
known_method None = Err NoMethod

abbrev pub method_named : Option (List ℕ) → Result Method RequestFault
method_named (Some name) = known_method (find (λ m. bytes_eq (name_of m) name) methods)
method_named None = Err NotRequest

-- the method that a request names
abbrev pub method_in : Option Json → Result Method RequestFault
method_in (Some j) = method_named (as_str j)
method_in None = Err NotRequest

-- the call of a method whose parameters are an array of which this is the first
abbrev pub with_first : Method → Option Json → Result Call RequestFault
with_first m None = call_of m (json.object no_members)
with_first m (Some j) = Err (BadParam None Unnamed)

-- the call of a method with these parameters: an object, or an empty array or nothing for an empty one
abbrev pub with_params : Method → Option Json → Result Call RequestFault
with_params m None = call_of m (json.object no_members)
with_params m (Some json.null) = Err (BadParam None Unnamed)
with_params m (Some (json.boolean b)) = Err (BadParam None Unnamed)
with_params m (Some (json.number s)) = Err (BadParam None Unnamed)
with_params m (Some (json.string s)) = Err (BadParam None Unnamed)
with_params m (Some (json.array js)) = with_first m (get_item 0 js)
with_params m (Some (json.object ms)) = call_of m (json.object ms)

-- the keys of a request
abbrev pub request_names : List (List ℕ)
request_names = codes "jsonrpc" ∷ codes "id" ∷ codes "method" ∷ codes "params" ∷ []

-- what a request calls
abbrev pub request_call : Json → Result Call RequestFault
request_call j =
    if may_be_version (get (codes "jsonrpc") j) && is_none (first_unknown request_names j)
    then and_then (method_in (get (codes "method") j)) (λ m. with_params m (get (codes "params") j))
    else Err NotRequest

-- what is refused before an id is known: its answer bears `null`
abbrev pub refused : RequestFault → Received
refused fault = record { id = Some Null; call = Err fault }

-- what is no request is answered also where it has no id
abbrev pub with_call : Option Id → Result Call RequestFault → Received
with_call id (Ok call) = record { id = id; call = Ok call }
with_call id (Err NotRequest) = record { id = Some (unwrap_or id Null); call = Err NotRequest }
with_call id (Err TooLong) = record { id = id; call = Err TooLong }
with_call id (Err NotJson) = record { id = id; call = Err NotJson }
with_call id (Err NoMethod) = record { id = id; call = Err NoMethod }
with_call id (Err (BadParam param why)) = record { id = id; call = Err (BadParam param why) }
with_call id (Err Memory) = record { id = id; call = Err Memory }

abbrev pub received_with : Result (Option Id) RequestFault → Json → Received
received_with (Ok id) j = with_call id (request_call j)
received_with (Err _) j = refused NotRequest

-- what a value is, no object of which has a key twice
abbrev pub received : Json → Received
received j = received_with (id_of j) j

-- what a text is that is this value, or none
abbrev pub Says : Option Json → Received → Type 0
Says (Some j) r = (HasUniqueKeys j × (r ≡ received j)) ⊎ ((¬ HasUniqueKeys j) × (r ≡ refused NotRequest))
Says None r = r ≡ refused NotJson

-- what a line is, which isn't empty
pub record IsReceived (line : List ℕ) (r : Received) : Type 0 where
  pub too_long : max_line < length line → r ≡ refused TooLong
  pub not_text : length line ≤ max_line → ¬ IsUtf8 line → r ≡ refused NotJson
  pub says : length line ≤ max_line → IsUtf8 line → Says (document line) r
