-- What is written of a request is read as that request.
use Rattle.std.proofs.Common.{◌≡◌, cond, length, refl, ◌∙◌, ap}
use Rattle.std.specs.Prelude.{Option, Some, None, Ok, Err, codes, option_map}
use Rattle.std.proofs.lemmas.Bool.{le-leb}
use Rattle.floor_words.specs.Laws.{NumbersAreReadBack}
use Rattle.floor_rpc.specs.CallsWritten.{method_of, request_fields, request_json}
use Rattle.floor_rpc.specs.Ids.{id_json}
use Rattle.floor_rpc.specs.Laws.{IsCall, IsId, RequestsAreReadBack}
use Rattle.floor_rpc.specs.Params.{and_then}
use Rattle.floor_rpc.specs.Requests.{id_where, known_method, max_id, received_with, request_call, request_names, with_call}
use Rattle.floor_rpc.specs.declared.fault.RequestFault.TheVariants.{NotRequest}
use Rattle.floor_rpc.specs.declared.id.Id.{Id}
use Rattle.floor_rpc.specs.declared.id.Id.TheVariants.{Null, Number, Text}
use Rattle.floor_rpc.specs.declared.request.Request.{Request}
use Rattle.floor_rpc.proofs.CallsBack.{call_back, get_fields, method_back, none_unknown}

-- an id that isn't too long is read back
id_back : (o : Option Id) → IsId o → id_where (option_map id_json o) ≡ Ok o
id_back None h = refl
id_back (Some Null) h = refl
id_back (Some (Number s)) h = ap (λ b. and_then (cond b (Ok (Number s)) (Err NotRequest)) (λ id. Ok (Some id))) (le-leb (length s) max_id h)
id_back (Some (Text s)) h = ap (λ b. and_then (cond b (Ok (Text s)) (Err NotRequest)) (λ id. Ok (Some id))) (le-leb (length s) max_id h)

-- a request is read as what it calls
call_of_request : NumbersAreReadBack → (r : Request) → IsCall r.call → request_call (request_json r) ≡ Ok r.call
call_of_request back r h =
    let fs = request_fields r in
    rw (get_fields (codes "jsonrpc") fs)
    (rw (none_unknown request_names fs refl)
    (rw (get_fields (codes "method") fs)
    (rw (ap known_method (method_back (method_of r.call)))
    (rw (get_fields (codes "params") fs) (call_back back r.call h)))))

pub requests_are_read_back : NumbersAreReadBack → RequestsAreReadBack
requests_are_read_back back r hid hcall =
    ap (λ i. received_with i (request_json r)) (ap id_where (get_fields (codes "id") (request_fields r)) ∙ id_back r.id hid)
    ∙ ap (with_call r.id) (call_of_request back r hcall)
