-- How a client is answered whose request was carried out.
use Rattle.std.specs.Prelude.{◌≡◌, Bool, true, false, Option, Some, None, Result, Ok, Err}
use Rattle.floor_rpc.specs.declared.answer.Answer.{Answer}
use Rattle.floor_rpc.specs.declared.failure.Failure.{Failure}
use Rattle.floor_clients.specs.Clients.{answered_by}
use Rattle.floor_shown.specs.declared.refused.Refused.{Refused}
use Rattle.floor_desk.specs.Callers.{EndsTask, is_told_to}
use Rattle.floor_desk.specs.Clients.{OrCloses}
use Rattle.floor_desk.specs.declared.caller.Caller.{Caller}
use Rattle.floor_desk.specs.declared.caller.Done.{Done}
use Rattle.floor_desk.specs.declared.caller.Done.TheVariants as done
use Rattle.floor_desk.specs.declared.caller.Task.{Task}
use Rattle.floor_desk.specs.declared.caller.Task.TheVariants as task

-- it is answered so, and awaits nothing
abbrev pub IsAnswered : Result Answer Failure → Option Caller → Option Caller → Type 0
IsAnswered outcome old new = EndsTask task.Nothing (OrCloses (answered_by outcome)) old new

-- its answer waits for this
abbrev pub Waits : Task → Option Caller → Option Caller → Type 0
Waits t old new = EndsTask t (λ before after. after ≡ before) old new

-- it is answered so where it was told what it had to be, else its answer waits for this
abbrev pub IsAnsweredOrWaits : Bool → Answer → Task → Option Caller → Option Caller → Type 0
IsAnsweredOrWaits true answer t old new = IsAnswered (Ok answer) old new
IsAnsweredOrWaits false answer t old new = Waits t old new

-- what a request came to: at once it is answered, or where it is told each place up to that of its event; else its answer waits; why it is refused is its answer
abbrev pub EndsBy : Result Done Refused → Option Caller → Option Caller → Type 0
EndsBy (Ok (done.Now answer)) old new = IsAnswered (Ok answer) old new
EndsBy (Ok (done.At told answer)) old new = IsAnsweredOrWaits (is_told_to told old) answer (task.Told told answer) old new
EndsBy (Ok (done.Later t)) old new = Waits t old new
EndsBy (Err refused) old new = IsAnswered (Err refused.failure) old new

-- it is answered so where it was told what it had to be; else nothing has changed
abbrev pub IsAnsweredIf : Bool → Answer → Option Caller → Option Caller → Type 0
IsAnsweredIf true answer old new = IsAnswered (Ok answer) old new
IsAnsweredIf false answer old new = new ≡ old

-- whose answer waits for a place that it is told is answered; else nothing has changed
abbrev pub EndsAt : Task → Option Caller → Option Caller → Type 0
EndsAt (task.Told told answer) old new = IsAnsweredIf (is_told_to told old) answer old new
EndsAt _ old new = new ≡ old

abbrev pub EndsWhereTold : Option Caller → Option Caller → Type 0
EndsWhereTold None new = new ≡ None
EndsWhereTold (Some c) new = EndsAt c.task (Some c) new
