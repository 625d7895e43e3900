-- The error of a line that is no request, and errors as JSON.
use Rattle.std.specs.Prelude.{ℕ, List, codes, Result, Ok, Err}
use Rattle.json.specs.Json as json
use Rattle.json.specs.Json.{Json}
use Rattle.floor_rpc.specs.Answers.{answer_json}
use Rattle.floor_rpc.specs.Errors.{name_of, number_of}
use Rattle.floor_rpc.specs.Faults.{why_name}
use Rattle.floor_rpc.specs.Ids.{id_json}
use Rattle.floor_rpc.specs.Json.{integer_json, number_json, one_member, option_json}
use Rattle.floor_rpc.specs.declared.answer.Answer.{Answer}
use Rattle.floor_rpc.specs.declared.error.ErrorName.{ErrorName}
use Rattle.floor_rpc.specs.declared.error.ErrorName.TheVariants as error
use Rattle.floor_rpc.specs.declared.failure.About.{About}
use Rattle.floor_rpc.specs.declared.failure.About.TheVariants as about
use Rattle.floor_rpc.specs.declared.failure.Failure.{Failure}
use Rattle.floor_rpc.specs.declared.fault.RequestFault.{RequestFault}
use Rattle.floor_rpc.specs.declared.fault.RequestFault.TheVariants as fault
use Rattle.floor_rpc.specs.declared.response.Response.{Response}

-- the error of a line that is no request
abbrev pub failure_of : RequestFault → Failure
failure_of fault.TooLong = record { name = error.TooLong; about = about.All }
failure_of fault.NotJson = record { name = error.NotJson; about = about.All }
failure_of fault.NotRequest = record { name = error.NotRequest; about = about.All }
failure_of fault.NoMethod = record { name = error.NoMethod; about = about.All }
failure_of (fault.BadParam param why) = record { name = error.BadParams; about = about.Param param why }
failure_of fault.Memory = record { name = error.Memory; about = about.All }

-- what an error is about: an object that names it, or `null`
abbrev pub numbered : List ℕ → ℕ → Json
numbered key n = one_member key (number_json n)

abbrev pub about_json : About → Json
about_json about.All = json.null
about_json (about.Param param why) =
    json.object (
    json.member (codes "param") (option_json json.string param) (
    json.member (codes "why") (json.string (why_name why)) json.no_members))
about_json (about.Conference n) = numbered (codes "conference") n
about_json (about.User n) = numbered (codes "user") n
about_json (about.Member n) = numbered (codes "member") n
about_json (about.Floor n) = numbered (codes "floor") n
about_json (about.Request n) = numbered (codes "request") n
about_json (about.Place n) = numbered (codes "place") n
about_json (about.Line n) = numbered (codes "line") n

-- the number of an error
abbrev pub error_json : ErrorName → Json
error_json name = integer_json (number_of name)

-- an error
abbrev pub failure_json : Failure → Json
failure_json f =
    json.object (
    json.member (codes "code") (error_json f.name) (
    json.member (codes "message") (json.string (name_of f.name)) (
    json.member (codes "data") (about_json f.about) json.no_members)))

-- an answer bears the id of its request, and a result or an error
abbrev pub answered : Json → List ℕ → Json → Json
answered id key outcome =
    json.object (
    json.member (codes "jsonrpc") (json.string (codes "2.0")) (
    json.member (codes "id") id (
    json.member key outcome json.no_members)))

abbrev pub outcome_json : Json → Result Answer Failure → Json
outcome_json id (Ok answer) = answered id (codes "result") (answer_json answer)
outcome_json id (Err failure) = answered id (codes "error") (failure_json failure)

abbrev pub response_json : Response → Json
response_json r = outcome_json (id_json r.id) r.outcome
