-- Requests and what they are read as, computed.
use Rattle.std.specs.Prelude.{◌≡◌, Some, None, Ok, Err, codes, refl}
use Rattle.json.specs.Json as json
use Rattle.json.specs.Json.{Json, no_items, no_members, member, item}
use Rattle.floor_rpc.specs.Calls.{call_of}
use Rattle.floor_rpc.specs.CallsWritten.{release_json}
use Rattle.floor_rpc.specs.Json.{members_of, number_json}
use Rattle.floor_rpc.specs.Requests.{received}
use Rattle.floor_rpc.specs.declared.call.Call.TheVariants as call
use Rattle.floor_rpc.specs.declared.fault.RequestFault.TheVariants.{NotRequest, NoMethod, BadParam}
use Rattle.floor_rpc.specs.declared.fault.Why.TheVariants.{Missing, Unknown, WrongType, Unnamed}
use Rattle.floor_rpc.specs.declared.id.Id.TheVariants.{Null, Text}
use Rattle.floor_rpc.specs.declared.method.Method.TheVariants as method

-- {"id":"a","method":"help"}
pub help_is_called : received (json.object (member (codes "id") (json.string (codes "a")) (member (codes "method") (json.string (codes "help")) no_members)))
    ≡ record { id = Some (Text (codes "a")); call = Ok call.Help }
help_is_called = refl

-- {"method":"help","params":[]}: without an id it isn't answered
pub nobody_is_answered : received (json.object (member (codes "method") (json.string (codes "help")) (member (codes "params") (json.array no_items) no_members)))
    ≡ record { id = None; call = Ok call.Help }
nobody_is_answered = refl

-- {"id":"a"}
pub nothing_is_called : received (json.object (member (codes "id") (json.string (codes "a")) no_members)) ≡ record { id = Some (Text (codes "a")); call = Err NotRequest }
nothing_is_called = refl

-- []: a batch
pub a_batch_is_no_request : received (json.array no_items) ≡ record { id = Some Null; call = Err NotRequest }
a_batch_is_no_request = refl

-- {"id":null,"method":"Help"}
pub names_are_exact : received (json.object (member (codes "id") json.null (member (codes "method") (json.string (codes "Help")) no_members)))
    ≡ record { id = Some Null; call = Err NoMethod }
names_are_exact = refl

-- {"method":"help","params":[null]}
pub parameters_have_names : received (json.object (member (codes "method") (json.string (codes "help")) (member (codes "params") (json.array (item json.null no_items)) no_members)))
    ≡ record { id = None; call = Err (BadParam None Unnamed) }
parameters_have_names = refl

-- what a method doesn't know comes before what it lacks
pub unknown_comes_first : call_of method.ConferenceGet (json.object (member (codes "a") json.null no_members)) ≡ Err (BadParam (Some (codes "a")) Unknown)
unknown_comes_first = refl

pub the_conference_is_missing : call_of method.ConferenceGet (json.object no_members) ≡ Err (BadParam (Some (codes "conference")) Missing)
the_conference_is_missing = refl

pub a_text_is_no_number : call_of method.ConferenceGet (json.object (member (codes "conference") (json.string (codes "7")) no_members))
    ≡ Err (BadParam (Some (codes "conference")) WrongType)
a_text_is_no_number = refl

-- {"conferences":[7]}: an item that is no object isn't taken for an empty one
pub a_number_is_no_conference : call_of method.Watch (json.object (member (codes "conferences") (json.array (item (number_json 7) no_items)) no_members))
    ≡ Err (BadParam (Some (codes "conferences")) WrongType)
a_number_is_no_conference = refl

-- what isn't given is left out
pub nobody_is_named : release_json record { conference = 7; request = 9; by = None }
    ≡ json.object (member (codes "conference") (number_json 7) (member (codes "request") (number_json 9) no_members))
unfolding members_of
nobody_is_named = refl
