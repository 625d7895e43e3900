-- What follows from a line.
use Rattle.std.specs.Prelude.{◌≡◌, ◌⊎◌, ℕ, Bool, List, [], Option, Some, None, Result, Ok, Err}
use Rattle.floor_rpc.specs.Failures.{failure_of}
use Rattle.floor_rpc.specs.Requests.{IsReceived}
use Rattle.floor_rpc.specs.declared.answer.Answer.{Answer}
use Rattle.floor_rpc.specs.declared.answer.Answer.TheVariants as answer
use Rattle.floor_rpc.specs.declared.call.Call.{Call}
use Rattle.floor_rpc.specs.declared.error.ErrorName.{ErrorName}
use Rattle.floor_rpc.specs.declared.failure.About.TheVariants.{All}
use Rattle.floor_rpc.specs.declared.failure.Failure.{Failure}
use Rattle.floor_rpc.specs.declared.fault.RequestFault.{RequestFault}
use Rattle.floor_rpc.specs.declared.id.Id.{Id}
use Rattle.floor_rpc.specs.declared.picture.Picture.{Picture}
use Rattle.floor_rpc.specs.declared.request.Received.{Received}
use Rattle.floor_rpc.specs.declared.response.Response.{Response}
use Rattle.floor_clients.specs.Modes.{refusal_of}
use Rattle.floor_clients.specs.declared.mode.Mode.{Mode}
use Rattle.floor_clients.specs.declared.mode.Mode.TheVariants.{Control, Observer}
use Rattle.floor_clients.specs.declared.reply.Reply.{Reply}
use Rattle.floor_clients.specs.declared.reply.Reply.TheVariants as reply

-- what is refused is answered where it has an id
abbrev pub refused : Option Id → Failure → Reply
refused (Some id) failure = reply.Answer record { id = id; outcome = Err failure }
refused None failure = reply.Silent

-- a call is carried out, unless it isn't, whatever it is about
abbrev pub unless : Option ErrorName → Option Id → Call → Reply
unless (Some name) id call = refused id (record { name = name; about = All })
unless None id call = reply.Task id call

abbrev pub reply_with : Mode → Bool → Option Id → Result Call RequestFault → Reply
reply_with mode draining id (Ok call) = unless (refusal_of mode draining call) id call
reply_with mode draining id (Err fault) = refused id (failure_of fault)

-- what follows from what a line is
abbrev pub reply_of : Mode → Bool → Received → Reply
reply_of mode draining r = reply_with mode draining r.id r.call

-- nothing follows from an empty line, and from any other what follows from what it is
abbrev pub IsReplyTo : Mode → Bool → List ℕ → Reply → Type 0
IsReplyTo mode draining line r = ((line ≡ []) × (r ≡ reply.Silent)) ⊎ ((received : Received) × IsReceived line received × (r ≡ reply_of mode draining received))

-- a picture without words
abbrev pub without_words : Picture → Picture
without_words p = record p { words = [] }

-- what is shown of what a request came to: to an observer no word
abbrev pub shown : Answer → Answer
shown (answer.Picture p) = answer.Picture (without_words p)
shown other = other

abbrev pub shown_to : Mode → Result Answer Failure → Result Answer Failure
shown_to Control outcome = outcome
shown_to Observer (Ok answer) = Ok (shown answer)
shown_to Observer (Err failure) = Err failure
